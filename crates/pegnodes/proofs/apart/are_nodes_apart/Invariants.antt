use Rattle.std.proofs.Common.{◌≡◌, ◌<◌, ℕ, true, Some}
use Rattle.std.specs.Prelude.{slice_get}
use Rattle.pegnodes.specs.ClosedMarks.{shape_apart}
use Rattle.pegnodes.specs.Nodes.{Shape, shapes_of}
use Rattle.pegnodes.proofs.apart.are_nodes_apart.Given as goal

abbrev pub invariant-loop-n : goal.invariant-loop-n
invariant-loop-n l = (n : ℕ) → n < l.n → (shape : Shape) → slice_get (shapes_of l.nodes) n ≡ Some shape
    → shape_apart l.empties l.near l.last n shape ≡ true
