-- The notes are reported, and the runner stands in the place; or an allocation failed.
use Rattle.std.proofs.Common.{map}
use Rattle.capi.specs.OpenCall.{opens, refuses}
use Rattle.capi.proofs.OpenCallLemmas.{opens_no_text, opens_nothing}
use Rattle.capi.proofs.opening.open_runner.Goals as goal
use Rattle.ruletable.specs.Notes.{said_of}

pub returns-in-Err : goal.returns-in-Err
returns-in-Err c =
    opens_no_text c.args.slot.now.runner.held c.requires c.text_of_fault.result c.text_of_fault.ensures

pub returns-in_default : goal.returns-in_default
returns-in_default c =
    rw c.requires (refuses (map said_of c.in-Ok.opened.notes.items) c.in-Ok.opened.diagnostics.items
    (rw c.in_default.is at c.in-Ok.ensures.opened) c.in-Ok.ensures.diagnostics)

pub returns-in_err-new : goal.returns-in_err-new
returns-in_err-new c =
    opens_nothing c.args.slot.now.runner.held c.requires c.from_residual.result c.from_residual.ensures.0

pub returns : goal.returns
returns c =
    rw (c.put_runner.ensures, c.in_ok-new.ensures.ok)
    (opens (map said_of c.in-Ok.opened.notes.items) c.in-Ok.opened.diagnostics.items c.runner_by.result
    (rw c.runner_by.ensures.grammar (rw c.in-Some.is at c.in-Ok.ensures.opened), c.runner_by.ensures.settings)
    c.in-Ok.ensures.diagnostics)
