-- Cells of pairs of a node and a position: that one is there, and that it holds the outcome.
use Rattle.std.specs.Prelude.{◌≡◌, ℕ, ◌<◌, Bool, true, List, length, Some}
use Rattle.pegread.specs.Pattern.{Rule}
use Rattle.pegnodes.specs.Nodes.{Shape}
use Rattle.gramcheck.specs.Outcome.{Event}
use Rattle.memo.specs.Entries.{Entry, found_at}
use Rattle.memo.specs.declared.found.Found.{Found}
use Rattle.pegmatch.specs.KeptEvents.{outcome_of}
use Rattle.pegmatch.specs.Visits.{NodeGives}

-- the node has a cell at the position
abbrev pub HasCell : List Entry → ℕ → ℕ → Type 0
HasCell cells n p = (f : Found) × (found_at cells n p ≡ Some f)

module _ (rules : List Rule) (start : ℕ) (nodes : List Shape) (bodies x : List ℕ) (more : Bool) where
  -- what was found is the outcome of the node, which did not look at the last byte of a window that is not the whole
  -- rest
  pub record IsFound (n p : ℕ) (f : Found) : Type 0 where
    pub events : List Event
    pub looked : ℕ
    pub gives : NodeGives rules nodes bodies x n p (outcome_of f events) looked
    pub enough : more ≡ true → looked < length x
