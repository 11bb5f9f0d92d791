use Rattle.pegmatch.proofs.MatchStepLemmas.{any_found, any_missing}
use Rattle.pegmatch.proofs.leaves.match_any.Goals as goal

pub returns-then-position-window-clause-value : goal.returns-then-position-window-clause-value
returns-then-position-window-clause-value c = λ rules. any_found rules _ _ c.if-position-window.true

pub returns-else-position-window-clause-value : goal.returns-else-position-window-clause-value
returns-else-position-window-clause-value c = λ rules. any_missing rules _ _ c.if-position-window.false
