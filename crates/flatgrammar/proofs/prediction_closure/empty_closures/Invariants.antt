use Rattle.std.proofs.Common.{◌≡◌, ℕ, None, length, slice_get}
use Rattle.flatgrammar.specs.ItemClosures.{closure_in}
use Rattle.flatgrammar.proofs.prediction_closure.empty_closures.Given as goal

abbrev pub invariant-loop : goal.invariant-loop
invariant-loop l = record {
  count : length l.closures.items ≡ l.counter;
  empty : (h : ℕ) → closure_in (slice_get l.closures.items h) ≡ closure_in None;
}
