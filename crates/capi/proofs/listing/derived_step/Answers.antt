-- The first line, or the one after the last.
use Rattle.std.proofs.Common.{refl}
use Rattle.std.proofs.lemmas.Result.{IfOk-weaker}
use Rattle.std.proofs.lemmas.Option.{IfSome_then}
use Rattle.capi.proofs.listing.derived_step.Goals as goal

pub returns-in-None-clause-next : goal.returns-in-None-clause-next
returns-in-None-clause-next c = rw c.in-None.is (IfOk-weaker c.first.result _ _
    (λ reported is. IfSome_then reported is (λ step first. (refl, first))) c.first.ensures.first)

pub returns-in-Some-clause-next : goal.returns-in-Some-clause-next
returns-in-Some-clause-next c = rw c.in-Some.is (IfOk-weaker c.after.result _ _
    (λ reported is. IfSome_then reported is (λ step after. (refl, after)))
    (rw c.as_slice.ensures.value at c.after.ensures.after))
