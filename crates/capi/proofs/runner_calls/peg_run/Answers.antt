-- The grammar is run, or none is open.
use Rattle.std.proofs.Common.{refl}
use Rattle.capi.specs.RunCall.{not_open, runs}
use Rattle.capi.proofs.OpenCallLemmas.{closed_is_none}
use Rattle.capi.proofs.runner_calls.peg_run.Goals as goal

pub returns-then-not-slot-clause-ran : goal.returns-then-not-slot-clause-ran
returns-then-not-slot-clause-ran c =
    let slot = c.args.slot.now in
    let empty = closed_is_none slot.runner.held slot.is_open slot.right c.if-not-slot.true in
    rw (empty, c.nothing_done.ensures) (not_open (refl, refl) (refl, refl) refl)

pub returns-clause-ran : goal.returns-clause-ran
returns-clause-ran c =
    let run = c.run_input-ran.ensures.runs in
    rw (
      c.take_runner-runner.ensures.runner,
      c.c_result.ensures.status,
      c.c_result.ensures.out_len,
      c.c_result.ensures.err_len,
    )
    (runs c.take_runner-runner.result.value run.0 run.1 (rw c.deref_mut.ensures.value at run.2) run.3 run.4)
