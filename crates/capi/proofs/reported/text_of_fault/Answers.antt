-- The fault is reported, or an allocation failed.
use Rattle.std.proofs.Common.{◌≢◌, rules}
use Rattle.ruletable.specs.declared.fault.ReadFault.TheVariants.{Memory}
use Rattle.capi.proofs.OpenCallLemmas.{reports_fault, reports_nothing}
use Rattle.capi.specs.OpenCall.{has_no_memory}
use Rattle.capi.proofs.reported.text_of_fault.Goals as goal
use Rattle.capi.proofs.reported.text_of_fault.Goals.{then-settings+in_ok-why, else-settings}

pub returns-then-eq : goal.returns-then-eq
returns-then-eq g c = has_no_memory

pub returns-in_err-why : goal.returns-in_err-why
returns-in_err-why g c = reports_nothing c.from_residual.result c.from_residual.ensures.0

pub returns : goal.returns
returns g c =
    let other : c.args.fault ≢ Memory = search rules in
    reports_fault c.args.fault c.if-settings.why.items c.text_of_first.result c.requires other
    (elim c.if-settings.branch [
      | then-settings+in_ok-why w ↦ rw (w.if-settings.true, w.why-is) w.in_ok-why.ensures
      | else-settings w ↦ rw (w.if-settings.false, w.why-is) w.new-why.ensures.items
    ]) c.text_of_first.ensures
