-- Tables of rows: steps lead from each number to the numbers of its row.
use Rattle.std.specs.Prelude.{ℕ, ◌<◌, List, [], length, map, slice_index_or, Contains}
use Rattle.std.specs.Borrow.{Bor}
use Rattle.std.proofs.Common.{Vec, Global}

-- the rows of a table of slices
abbrev pub slices_of : List (Bor (List ℕ)) → List (List ℕ)
slices_of rows = map (λ row. row.now) rows

-- the rows of a table of vectors
abbrev pub rows_of : List (Vec ℕ Global) → List (List ℕ)
rows_of rows = map (λ row. row.items) rows

-- a row, empty where there is no such row
abbrev pub row_at : List (List ℕ) → ℕ → List ℕ
row_at rows n = slice_index_or rows n []

-- a step leads from n to m
abbrev pub Step : List (List ℕ) → ℕ → ℕ → Type 0
Step rows n m = Contains (row_at rows n) m

-- steps lead only to numbers that have rows
pub record AreStepsWithin (rows : List (List ℕ)) : Type 0 where
  pub within : (n m : ℕ) → Step rows n m → m < length rows

-- the steps from the numbers below i do
abbrev pub AreStepsWithinTo : List (List ℕ) → ℕ → Type 0
AreStepsWithinTo rows i = (n m : ℕ) → n < i → Step rows n m → m < length rows
