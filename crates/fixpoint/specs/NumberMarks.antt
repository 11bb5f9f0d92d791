-- Marks, one for each number.
use Rattle.std.specs.Prelude.{◌≡◌, ◌⊎◌, ℕ, ◌<◌, Bool, true, false, List, length, slice_index_or, Contains}

-- m is marked
abbrev pub IsMarked : List Bool → ℕ → Type 0
IsMarked marks m = slice_index_or marks m false ≡ true

-- each of these numbers is less than the count
abbrev pub AreBelow : List ℕ → ℕ → Type 0
AreBelow numbers count = (m : ℕ) → Contains numbers m → m < count

-- each number in `these` is marked now, and no other that was not marked before
pub record MarksThose (these : List ℕ) (marks marks' : List Bool) : Type 0 where
  pub count : length marks' ≡ length marks
  pub kept : (m : ℕ) → IsMarked marks m → IsMarked marks' m
  pub all : (m : ℕ) → Contains these m → IsMarked marks' m
  pub only : (m : ℕ) → IsMarked marks' m → IsMarked marks m ⊎ Contains these m

-- exactly the numbers in `these` are marked
pub record AreMarksOf (these : List ℕ) (marks : List Bool) : Type 0 where
  pub all : (m : ℕ) → Contains these m → IsMarked marks m
  pub only : (m : ℕ) → IsMarked marks m → Contains these m
