use Rattle.std.proofs.Common.{◌≡◌, ◌<◌, ℕ, get_or, None, Some}
use Rattle.std.specs.Prelude.{slice_get}
use Rattle.pegnodes.specs.Nodes.{Shape, shapes_of}
use Rattle.pegnodes.specs.SettledNeeds.{IsSureNode}
use Rattle.pegnodes.proofs.settled.are_nodes_sure.Given as goal

-- in those so far
abbrev pub invariant-loop-n : goal.invariant-loop-n
invariant-loop-n l = (m : ℕ) (shape : Shape) → m < l.n → slice_get (shapes_of l.nodes) m ≡ Some shape
    → IsSureNode (λ k. get_or l.row k None) l.late l.over shape
