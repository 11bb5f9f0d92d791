use Rattle.std.proofs.Common.{refl, sym, ◌∙◌}
use Rattle.pegmatch.proofs.MatchStepLemmas.{set_found, set_other, set_missing}
use Rattle.pegmatch.proofs.leaves.match_set.Goals as goal

pub returns-then-position-window-clause-value : goal.returns-then-position-window-clause-value
returns-then-position-window-clause-value c = λ rules. set_missing rules _ _ _ c.if-position-window.true

pub returns-then-has-clause-value : goal.returns-then-has-clause-value
returns-then-has-clause-value c = λ rules. set_found rules _ _ _ _ c.if-position-window.false refl
    (sym c.has.ensures ∙ c.if-has.true)

pub returns-else-has-clause-value : goal.returns-else-has-clause-value
returns-else-has-clause-value c = λ rules. set_other rules _ _ _ _ c.if-position-window.false refl
    (sym c.has.ensures ∙ c.if-has.false)
