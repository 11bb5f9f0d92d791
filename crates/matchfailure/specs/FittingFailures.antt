-- Failures whose numbers fit into words. It serves private helpers alone.
use Rattle.std.specs.Prelude.{ℕ, ◌+◌, ◌^◌, ◌<◌, ◌≤◌, List}
use Rattle.matchfailure.specs.VisitLists.{ListsVisit}
use Rattle.matchfailure.specs.declared.farthest.failures.Farthest.{Farthest}
use Rattle.matchfailure.specs.declared.farthest.visit.Visit.{Visit}

-- the nodes are there, and the positions of the input too, where the unit begins after so many bytes
abbrev pub AreFitting : ℕ → ℕ → List Visit → Type 0
AreFitting nodes unit vs = (v : Visit) → ListsVisit vs v → (v.node < nodes) × (unit + v.position < 2 ^ 63)

-- likewise those of a failure in a text of so many bytes
pub record IsFitting (nodes size unit : ℕ) (far : Farthest) : Type 0 where
  pub position : far.position ≤ size
  pub expected : AreFitting nodes unit far.expected.items
