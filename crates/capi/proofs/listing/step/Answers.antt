-- The next line of each list.
use Rattle.std.proofs.lemmas.Result.{IfOk-weaker}
use Rattle.std.proofs.lemmas.Option.{IfSome_then}
use Rattle.capi.proofs.listing.step.Goals as goal

pub returns-in-Derived : goal.returns-in-Derived
returns-in-Derived c = rw (c.in-Derived.is, c.derived_step.ensures.same) c.derived_step.ensures.next

pub returns-in-Missed : goal.returns-in-Missed
returns-in-Missed c = rw c.in-Missed.is (IfOk-weaker c.next.result _ _
    (λ reported is. IfSome_then reported is (λ step next. (c.next.ensures.same, next))) c.next.ensures.next)

pub returns-in-Drawn : goal.returns-in-Drawn
returns-in-Drawn c = rw c.in-Drawn.is (IfOk-weaker c.by_lot.result _ _
    (λ reported is. IfSome_then reported is (λ step some. (c.by_lot.ensures.same, some))) c.by_lot.ensures.is)
