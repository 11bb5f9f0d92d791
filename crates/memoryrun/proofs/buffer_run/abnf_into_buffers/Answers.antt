-- The run is right, and its sinks leave their texts in the buffers.
use Rattle.std.proofs.Common.{Some}
use Rattle.abnfrun.specs.AbnfAnswers.{AbnfStates}
use Rattle.memoryrun.proofs.BufferSinkLemmas.{left_in_buffer}
use Rattle.memoryrun.proofs.MemoryRunLemmas.{run_of_sinks}
use Rattle.toolrun.specs.Status.{code_of}
use Rattle.memoryrun.proofs.buffer_run.abnf_into_buffers.Goals as goal

pub returns : goal.returns
returns c =
    let run = c.run_abnf-status in
    let out = run.new.out in
    let err = run.new.err in
    let ran = run_of_sinks (AbnfStates c.args.grammar.now c.args.settings.now) (Some c.new-reader.result.rest.now)
    (Some run.new.reader.rest.now) _ _ _ _ c.args.input.now out.failed err.failed (code_of run.result)
    c.new-reader.ensures.remaining run.ensures.right in (
      ran.0,
      ran.1,
      ran.2,
      left_in_buffer _ out.room.ghost_name out.len out.room.now c.args.out.now out.before.bytes out.taken.bytes _ ran.0
          _ _ c.new-printed.ensures.contents ran.3 assumption,
      left_in_buffer _ err.room.ghost_name err.len err.room.now c.args.err.now err.before.bytes err.taken.bytes _ ran.1
          _ _ c.new-reported.ensures.contents ran.4 assumption,
    )
