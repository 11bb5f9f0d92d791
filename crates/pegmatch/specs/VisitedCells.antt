-- Cells of exactly the pairs that are visited.
use Rattle.std.specs.Prelude.{◌≡◌, ℕ, Bool, List, Some}
use Rattle.pegread.specs.Pattern.{Rule}
use Rattle.pegnodes.specs.Nodes.{Shape}
use Rattle.memo.specs.Entries.{Entry, found_at, AreDifferent}
use Rattle.memo.specs.declared.found.Found.{Found}
use Rattle.pegmatch.specs.CellOutcomes.{HasCell, IsFound}
use Rattle.pegmatch.specs.Visits.{Visits}

module _ (rules : List Rule) (start : ℕ) (nodes : List Shape) (bodies x : List ℕ) (more : Bool) where
  -- The cells are exactly the pairs that are visited, each with its outcome and once.
  pub record AreVisitedCells (cells : List Entry) : Type 0 where
    -- each cell's pair is visited
    pub visited : (n p : ℕ) (f : Found) → found_at cells n p ≡ Some f → Visits rules nodes bodies x start n p
    -- each visited pair has a cell
    pub whole : (n p : ℕ) → Visits rules nodes bodies x start n p → HasCell cells n p
    pub found : (n p : ℕ) (f : Found) → found_at cells n p ≡ Some f → IsFound rules start nodes bodies x more n p f
    pub different : AreDifferent cells
