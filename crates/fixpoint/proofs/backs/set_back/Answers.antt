use Rattle.std.proofs.Common.{◌∙◌, sym, false, true, ◌≡◌}
use Rattle.fixpoint.proofs.BacksLemmas as b
use Rattle.fixpoint.proofs.backs.set_back.Goals as goal

pub returns-then-is_next : goal.returns-then-is_next
returns-then-is_next c = b.sets_new _ _ _ _ c.requires.room c.in-None.is (c.is_next.ensures.0 c.if-is_next.true)

pub returns-in_default : goal.returns-in_default
returns-in_default c = b.sets_reported _ _ _ _ c.requires.room c.in_default.not-None

pub returns-else-is_next : goal.returns-else-is_next
returns-else-is_next c = b.sets_far _ _ _ _
    (λ next. let e : false ≡ true = sym c.if-is_next.false ∙ c.is_next.ensures.1 next in cc e)
