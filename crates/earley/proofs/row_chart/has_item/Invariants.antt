use Rattle.std.proofs.Common.{◌≡◌, ℕ, ◌<◌, Some, slice_get}
use Rattle.earley.specs.RowSets.{HasAt}
use Rattle.flatgrammar.specs.ItemClosures.{dot}
use Rattle.earley.proofs.row_chart.has_item.Given as goal

abbrev pub invariant-loop-position : goal.invariant-loop-position
invariant-loop-position l = (p : ℕ) → p < l.position → slice_get l.dots p ≡ Some (dot l.item.node l.item.step)
    → HasAt l.rows p l.item.origin → ⊥
