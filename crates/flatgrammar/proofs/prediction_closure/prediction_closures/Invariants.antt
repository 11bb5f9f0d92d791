use Rattle.std.proofs.Common.{◌≡◌, ◌<◌, ℕ, None, length, slice_get}
use Rattle.flatgrammar.specs.ItemClosures.{closure_in}
use Rattle.flatgrammar.specs.PredictionClosures.{Grows, IsAtOwner}
use Rattle.flatgrammar.proofs.prediction_closure.prediction_closures.Given as goal

abbrev pub invariant-loop-node : goal.invariant-loop-node
invariant-loop-node l = record {
  count : length l.closures.items ≡ length l.flat.nodes.items;
  made : (h : ℕ) → Grows l.flat l.inlines (λ p. (p.node < l.node) × IsAtOwner l.flat l.inlines h p) (closure_in None)
      (closure_in (slice_get l.closures.items h));
}
