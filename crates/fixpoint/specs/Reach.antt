-- Chains of steps, also of none, and the numbers that they reach.
use Rattle.std.specs.Prelude.{◌≡◌, ◌⊎◌, ◌↔◌, ℕ, ◌+◌, Bool, true, false, List, [], ◌∷◌, length, Contains}
use Rattle.fixpoint.specs.NumberMarks.{IsMarked}
use Rattle.fixpoint.specs.StepRows.{Step}

module _ (rows : List (List ℕ)) where
  -- a chain of steps leads from s to m, of none where they are the same
  pub data Reaches (s : ℕ) : ℕ → Type 0 where
    here : Reaches s s
    further : {n m : ℕ} → Reaches s n → Step rows n m → Reaches s m

  -- exactly the numbers are marked that a chain from a number in `these` reaches
  abbrev pub AreReachedFrom : List ℕ → List Bool → Type 0
  AreReachedFrom these marks = (n : ℕ) → IsMarked marks n ↔ ((s : ℕ) × Contains these s × Reaches s n)

-- how many numbers are not marked
abbrev pub unset : List Bool → ℕ
unset [] = 0
unset (true ∷ marks) = unset marks
unset (false ∷ marks) = unset marks + 1

-- each number of the row is marked now, and those newly marked are stacked
pub record Stacks (row : List ℕ) (marks : List Bool) (stack : List ℕ) (marks' : List Bool)
    (stack' : List ℕ) : Type 0 where
  pub count : length marks' ≡ length marks
  pub kept : (m : ℕ) → IsMarked marks m → IsMarked marks' m
  pub all : (m : ℕ) → Contains row m → IsMarked marks' m
  pub only : (m : ℕ) → IsMarked marks' m → IsMarked marks m ⊎ (Contains row m × Contains stack' m)
  pub stays : (m : ℕ) → Contains stack m → Contains stack' m
  pub stacked : (m : ℕ) → Contains stack' m → Contains stack m ⊎ Contains row m
  pub left : unset marks' + length stack' ≡ unset marks + length stack

-- each number that a chain from `these` reaches is marked, or a chain reaches it from a stacked number
pub record IsSpreading (rows : List (List ℕ)) (these : List ℕ) (marks : List Bool) (stack : List ℕ) : Type 0 where
  pub count : length marks ≡ length rows
  pub first : (n : ℕ) → Contains these n → IsMarked marks n
  pub marked : (n : ℕ) → Contains stack n → IsMarked marks n
  pub sound : (n : ℕ) → IsMarked marks n → (s : ℕ) × Contains these s × Reaches rows s n
  pub done : (n : ℕ) → IsMarked marks n → Contains stack n ⊎ ((m : ℕ) → Step rows n m → IsMarked marks m)
