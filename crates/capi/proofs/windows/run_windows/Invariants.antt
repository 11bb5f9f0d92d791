-- The windows so far have run.
use Rattle.std.proofs.Common.{◌≡◌, ℕ, List, take, length}
use Rattle.std.specs.Io.KnownBytes.{Appends}
use Rattle.capi.specs.WindowRuns.{HaveRun, planned}
use Rattle.capi.specs.WindowWrites.{sink_contents}
use Rattle.toolrun.specs.Plan.{does_of}
use Rattle.toolrun.specs.Tasks.{task_does}
use Rattle.capi.proofs.windows.run_windows.Given as goal

abbrev pub invariant-loop-n : goal.invariant-loop-n
invariant-loop-n g l = record {
  ran : (printed : List ℕ) × (reported : List ℕ)
      × HaveRun (planned (does_of (λ t. task_does g.L.Language.canonical g.L.Language.runs t l.of.settings.now)
      l.plan.task)) l.of.input.now (take l.n l.of.windows.now) printed reported (take l.n l.results)
      × Appends (sink_contents l.fn.out) (sink_contents l.out) printed
      × Appends (sink_contents l.fn.err) (sink_contents l.err) reported;
  count : length l.results ≡ length l.of.windows.now;
}
