-- The run of the bytes, and what it adds to both sinks.
use Rattle.std.proofs.Common.{◌≡◌, ◌+◌, ℕ, List, arith, length}
use Rattle.std.specs.Io.KnownBytes.{Appends}
use Rattle.std.specs.Prelude.{IsSome}
use Rattle.capi.specs.WindowWrites.{sink_contents}
use Rattle.memoryrun.proofs.BufferSinkLemmas.{run_counts}
use Rattle.memoryrun.specs.declared.buffer_sink.BufferSink.{BufferSink}
use Rattle.toolrun.specs.Status.{code_of}
use Rattle.capi.proofs.windows.run_part.Goals as goal

-- a sink that takes bytes again, and then a text
counts_text : (old mid new : BufferSink) (text : List ℕ) → sink_contents mid ≡ sink_contents old
    → IsSome (sink_contents old) → Appends (sink_contents mid) (sink_contents new) text
    → (new.len ≡ old.len + length text) × Appends (sink_contents old) (sink_contents new) text
counts_text old mid new text same some took =
    let after : Appends (sink_contents old) (sink_contents new) text = rw same at took in (
      run_counts _ old.len _ _ _ _ new.len _ _ _ text some after,
      after,
    )

pub overflow_sub-result : goal.overflow_sub-result
overflow_sub-result g c =
    let ran = c.run_plan_into-status.ensures in
    omega (
      arith,
      (counts_text c.args.out.now c.resume.new.self c.run_plan_into-status.new.out ran.0
          c.resume.ensures.contents c.requires.out_known ran.3).0,
    )

pub overflow_sub-result-2 : goal.overflow_sub-result-2
overflow_sub-result-2 g c =
    let ran = c.run_plan_into-status.ensures in
    omega (
      arith,
      (counts_text c.args.err.now c.resume-2.new.self c.run_plan_into-status.new.err ran.1
          c.resume-2.ensures.contents c.requires.err_known ran.4).0,
    )

pub returns : goal.returns
returns g c =
    let ran = c.run_plan_into-status.ensures in
    let out = counts_text c.args.out.now c.resume.new.self c.run_plan_into-status.new.out ran.0
    c.resume.ensures.contents c.requires.out_known ran.3 in
    let err = counts_text c.args.err.now c.resume-2.new.self c.run_plan_into-status.new.err ran.1
    c.resume-2.ensures.contents c.requires.err_known ran.4 in (
      record { out = ran.0; err = ran.1; code = code_of c.run_plan_into-status.result },
      ran.2,
      out.1,
      err.1,
      rw (out.0, err.0, c.code.ensures) (search arith),
    )
