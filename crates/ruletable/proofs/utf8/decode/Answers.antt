use Rattle.ruletable.proofs.SpellsLemmas as w
use Rattle.ruletable.proofs.utf8.decode.Goals as goal

pub returns-in_default-clause-none : goal.returns-in_default-clause-none
returns-in_default-clause-none c _ = (c.clear.ensures.items, λ t. c.in_default.ensures.cases.0 (w.is_utf8 _ t))

pub returns-in-Ok-push_points-clause-text : goal.returns-in-Ok-push_points-clause-text
returns-in-Ok-push_points-clause-text c _ = w.spelled_by _ c.in-Ok.text.now _ c.in-Ok.ensures.cases.0
    c.in-Ok.ensures.cases.1 c.in-Ok-push_points.ensures
