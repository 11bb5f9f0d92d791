-- The least set of numbers that contains each number whose need it meets.
use Rattle.std.specs.Prelude.{◌≡◌, ◌↔◌, ℕ, Bool, List, slice_get, Some, Contains}
use Rattle.fixpoint.specs.Demands.{Demand, All, One}
use Rattle.fixpoint.specs.NumberMarks.{IsMarked}

module _ (needs : List Demand) where
  -- n is in the least set: all numbers that it needs are, or one of those that it needs is
  pub data Comes : ℕ → Type 0 where
    by_all : {n : ℕ} {row : List ℕ} → slice_get needs n ≡ Some (All row) →
        ((m : ℕ) → Contains row m → Comes m) → Comes n
    by_one : {n m : ℕ} {row : List ℕ} → slice_get needs n ≡ Some (One row) → Contains row m → Comes m → Comes n

  -- the order contains exactly the numbers of the least set
  abbrev pub AreThoseThatCome : List ℕ → Type 0
  AreThoseThatCome order = (n : ℕ) → Contains order n ↔ Comes n

  -- exactly the numbers of the least set are marked
  abbrev pub AreMarksOfThose : List Bool → Type 0
  AreMarksOfThose marks = (n : ℕ) → IsMarked marks n ↔ Comes n
