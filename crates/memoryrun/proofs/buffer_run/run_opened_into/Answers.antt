-- The run and its end, together, and what their sinks leave in the buffers.
use Rattle.std.proofs.Common.{Some}
use Rattle.memoryrun.proofs.BufferSinkLemmas.{left_in_buffer}
use Rattle.memoryrun.proofs.PlannedRunLemmas.{plan_of_sinks}
use Rattle.pegread.specs.PegViews.{rules_of}
use Rattle.pegrun.specs.PegReply.{RunStates}
use Rattle.toolrun.specs.Status.{code_of}
use Rattle.memoryrun.proofs.buffer_run.run_opened_into.Goals as goal

pub returns-clause-runs : goal.returns-clause-runs
returns-clause-runs c =
    let end = c.conclude-status in
    let out = end.new.out in
    let err = end.new.err in
    let ran = plan_of_sinks (RunStates (rules_of c.args.runner.now.rules) c.args.runner.now.start c.args.settings.now)
    c.args.input.now (Some c.new-reader.result.rest.now) (Some c.run-ending.new.reader.rest.now) _ _ _ _ _
    c.new-printed.result.failed c.run-ending.new.out.failed out.failed err.failed c.run-ending.result
    (code_of end.result) c.new-reader.ensures.remaining c.new-printed.ensures.failed c.run-ending.ensures.runs
    end.ensures.kept end.ensures.stays end.ensures.reported in (
      ran.0,
      ran.1,
      ran.2,
      left_in_buffer _ out.room.ghost_name out.len out.room.now c.args.out.now out.before.bytes out.taken.bytes _ ran.0
          _ _ c.new-printed.ensures.contents ran.3 assumption,
      left_in_buffer _ err.room.ghost_name err.len err.room.now c.args.err.now err.before.bytes err.taken.bytes _ ran.1
          _ _ c.new-reported.ensures.contents ran.4 assumption,
    )
