-- The text reads, or it has a fault.
use Rattle.std.proofs.lemmas.Result.{IfOk-weaker}
use Rattle.std.specs.Prelude.{None}
use Rattle.abnfd.specs.ComparedSides.{has_fault}
use Rattle.abnfd.proofs.by_name.open_text.Goals as goal

pub returns-in-Ok : goal.returns-in-Ok
returns-in-Ok c = IfOk-weaker c.checked_rules.result _ _
    (λ t is. is c.args.text.now (c.in-Ok.ensures.found, c.in-Ok.ensures.core)) c.checked_rules.ensures

pub returns-in_default : goal.returns-in_default
returns-in_default c = IfOk-weaker c.faulty_rules.result _ _
    (λ t is. record {
      grammar = None;
      is_side = rw (is.0) (has_fault c.in-Err.ensures.fault c.in_default.not-Memory);
      has_checked = rw (is.1) (c.in-Err.fault, c.in-Err.ensures.fault, c.in_default.not-Memory);
    }) c.faulty_rules.ensures
