use Rattle.std.proofs.Common.{◌≡◌, ◌<◌, ℕ, length, slice_get}
use Rattle.flatgrammar.specs.ItemClosures.{closure_of}
use Rattle.flatgrammar.specs.ItemClosures.{lists_in, IsDotList}
use Rattle.flatgrammar.proofs.dot_list.dot_lists.Given as goal

abbrev pub invariant-loop-prediction : goal.invariant-loop-prediction
invariant-loop-prediction l = record {
  count : length l.lists.items ≡ l.prediction;
  each : (h : ℕ) → h < l.prediction
      → IsDotList l.flat (closure_of l.flat h).dots (lists_in (slice_get l.lists.items h));
}
