use Rattle.std.proofs.Common.{◌≡◌, ◌<◌, ℕ, true, Some}
use Rattle.std.specs.Prelude.{slice_get}
use Rattle.fixpoint.specs.NumberMarks.{IsMarked}
use Rattle.pegnodes.specs.ClosedMarks.{wanted_step}
use Rattle.pegnodes.specs.Nodes.{Shape, shapes_of}
use Rattle.pegnodes.proofs.apart.are_closed.Given as goal

abbrev pub invariant-loop-n : goal.invariant-loop-n
invariant-loop-n l = (n : ℕ) → n < l.n → (shape : Shape) → slice_get (shapes_of l.nodes) n ≡ Some shape
    → wanted_step l.wanted l.bodies l.marks n shape ≡ true → IsMarked l.marks n
