use Rattle.std.proofs.Common.{◌≡◌, ℕ, [], length, get_or, Some, None}
use Rattle.std.specs.Prelude.{slice_get}
use Rattle.fixpoint.specs.Demands.{demands_of, All}
use Rattle.pegnodes.specs.Nodes.{Shape, shapes_of}
use Rattle.pegnodes.specs.SettledNeeds.{LetsLate}
use Rattle.pegnodes.proofs.settled.late_needs.Given as goal

abbrev pub invariant-loop-n : goal.invariant-loop-n
invariant-loop-n l = record {
  count : length l.needs.items ≡ l.n;
  lets : (n : ℕ) (shape : Shape) → slice_get (shapes_of l.nodes) n ≡ Some shape
      → LetsLate l.bodies (λ m. get_or l.row m None) (get_or l.row n None) shape
      (get_or (demands_of l.needs.items) n (All []));
}
