-- The runs of the windows, after the messages that stand once.
use Rattle.std.proofs.Common.{refl}
use Rattle.pegrun.specs.Answers.{States}
use Rattle.capi.specs.WindowsRun.{all_ran}
use Rattle.capi.proofs.FrontTextLemmas.{front_is_after, front_stands_first}
use Rattle.capi.proofs.WindowRunsLemmas.{runs_reported}
use Rattle.memoryrun.proofs.BufferSinkLemmas.{left_in_buffer}
use Rattle.toolrun.specs.Plan.{first_text}
use Rattle.capi.proofs.calls.peg_windows.Goals as goal

pub run_windows-requires-clause-out_known : goal.run_windows-requires-clause-out_known
run_windows-requires-clause-out_known c = rw c.new-printed.ensures.contents refl

pub run_windows-requires-clause-err_known : goal.run_windows-requires-clause-err_known
run_windows-requires-clause-err_known c = rw c.new-reported.ensures.contents refl

pub returns : goal.returns
returns c =
    let settings = c.in-Some.settings in
    let plan = c.plan_of.result in
    let front = c.front_of-front.result in
    let first = front.reported.items in
    let ran = c.run_windows.ensures in
    let out = c.run_windows.new.out in
    let err = c.run_windows.new.err in
    let states = States c.args.grammar.now settings in
    all_ran settings first ran.0 ran.1 c.in-Some.ensures
    (front_stands_first states _ (first_text plan.first) plan.task front.plan.task first c.front_of-front.ensures
    c.plan_of.ensures)
    (runs_reported _ _ c.args.input.now (front_is_after states _ (first_text plan.first) plan.task
    front.plan.task first c.front_of-front.ensures c.plan_of.ensures) c.args.windows.now _ _ _ ran.2)
    (left_in_buffer _ out.room.ghost_name out.len out.room.now c.args.out.now out.before.bytes out.taken.bytes _ ran.0
    _ _ c.new-printed.ensures.contents ran.3 assumption)
    (left_in_buffer _ err.room.ghost_name err.len err.room.now c.args.err.now err.before.bytes err.taken.bytes first
    ran.1 _ _ (rw c.as_slice.ensures.value at c.new-reported.ensures.contents) ran.4 assumption) c.code.ensures
