-- Lists of visited evaluations.
use Rattle.std.specs.Prelude.{◌≡◌, ◌⊎◌, ℕ, ◌<◌, ◌≤◌, List, length, slice_get, Some}
use Rattle.matchfailure.specs.declared.farthest.visit.Visit.{Visit}

-- the evaluation is in the list
abbrev pub ListsVisit : List Visit → Visit → Type 0
ListsVisit vs v = (k : ℕ) × (slice_get vs k ≡ Some v)

-- v stands before w: by the node, and then by the position
abbrev pub StandsBefore : Visit → Visit → Type 0
StandsBefore v w = (v.node < w.node) ⊎ ((v.node ≡ w.node) × (v.position < w.position))

-- each evaluation is less than those after it
abbrev pub Ascends : List Visit → Type 0
Ascends vs = (i j : ℕ) (v w : Visit) → i < j → slice_get vs i ≡ Some v → slice_get vs j ≡ Some w → StandsBefore v w

-- no evaluation is in the list twice
abbrev pub AreOnce : List Visit → Type 0
AreOnce vs = (i j : ℕ) (v : Visit) → slice_get vs i ≡ Some v → slice_get vs j ≡ Some v → i ≡ j

-- the nodes are there, and the positions are of the input or its end
abbrev pub AreWithin : ℕ → ℕ → List Visit → Type 0
AreWithin nodes length vs = (v : Visit) → ListsVisit vs v → (v.node < nodes) × (v.position ≤ length)
