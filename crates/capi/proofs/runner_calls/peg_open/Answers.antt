-- The grammar was opened into an empty slot, or what is wrong is reported.
use Rattle.capi.specs.OpenCall.{text_reported, tried}
use Rattle.capi.proofs.OpenCallLemmas.{closed_is_none}
use Rattle.capi.proofs.runner_calls.peg_open.Goals as goal

pub returns-clause-call : goal.returns-clause-call
returns-clause-call c =
    let slot = c.args.slot.now in
    let empty = closed_is_none slot.runner.held slot.is_open slot.right c.if-slot.false in
    tried c.in-Some.settings (text_reported c.open_runner-reported.result) empty c.in-Some.ensures
    (rw (c.lay_reported.ensures.status, c.open_runner-reported.new.slot.right) c.open_runner-reported.ensures)
    c.lay_reported.ensures.err
