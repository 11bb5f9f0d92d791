-- The text reads, or it has a fault.
use Rattle.std.proofs.lemmas.Result.{IfOk-weaker}
use Rattle.abnfd.specs.ComparedSides.{has_fault}
use Rattle.abnfd.proofs.side.open_side.Goals as goal

pub returns-in-Ok : goal.returns-in-Ok
returns-in-Ok c = IfOk-weaker c.checked_side.result _ _
    (λ s is. is c.args.text.now (c.in-Ok.ensures.found, c.in-Ok.ensures.core)) c.checked_side.ensures

pub returns-in_default : goal.returns-in_default
returns-in_default c = IfOk-weaker c.faulty_side.result _ _
    (λ s is. rw (is.0, is.1) (has_fault c.in-Err.ensures.fault c.in_default.not-Memory)) c.faulty_side.ensures
