use Rattle.std.proofs.Common.{◌≡◌, ◌<◌, ℕ, Some, length, slice_get}
use Rattle.flatgrammar.specs.ItemClosures.{dot, call_at}
use Rattle.flatgrammar.specs.Inlines.{allows_in, StillAllow}
use Rattle.flatgrammar.proofs.callers.mark_positions.Given as goal

abbrev pub invariant-loop-step : goal.invariant-loop-step
invariant-loop-step l = record {
  count : length l.callers ≡ length l.initial.callers;
  still : StillAllow l.initial.callers l.callers;
  here : (k t m : ℕ) → k < l.step → call_at l.flat (dot l.node k) ≡ Some (t, m)
      → allows_in (slice_get l.callers t) l.node k;
}
