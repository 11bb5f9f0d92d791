use Rattle.std.proofs.Common.{◌≡◌, ℕ, ◌<◌, false, Some, None, length, get_or}
use Rattle.std.specs.Prelude.{slice_get}
use Rattle.pegnodes.specs.Nodes.{Shape, shapes_of}
use Rattle.pegnodes.specs.Predictive.{IsLike, of_shape}
use Rattle.pegnodes.proofs.foresight.set_verdicts.Given as goal

-- where nothing changed, the nodes so far are as they are decided
abbrev pub invariant-loop-n : goal.invariant-loop-n
invariant-loop-n l = record {
  count : length l.row ≡ length l.nodes;
  same : l.changed ≡ false → l.row ≡ l.initial.row;
  decided : l.changed ≡ false → (c : ℕ) → IsLike l.b c →
      (k : ℕ) → k < l.n → (shape : Shape) → slice_get (shapes_of l.nodes) k ≡ Some shape
      → get_or l.row k None ≡ of_shape l.bodies c (λ m. get_or l.row m None) shape;
}
