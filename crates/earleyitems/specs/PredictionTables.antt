-- The table of predictions.
use Rattle.std.specs.Prelude.{◌≡◌, ℕ, List, Some, slice_get}

-- Of each prediction the table has its index. It may say anything of other numbers.
abbrev pub IsTable : List ℕ → List ℕ → Type 0
IsTable list table = (i h : ℕ) → slice_get list i ≡ Some h → slice_get table h ≡ Some i
