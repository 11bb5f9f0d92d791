-- Tables of how many of the first alternatives of a choice each byte decides to fail.
use Rattle.std.specs.Prelude.{◌≡◌, ℕ, suc, ◌+◌, Bool, false, List, slice_get, Some}
use Rattle.pegnodes.specs.ByByte.{Below}
use Rattle.pegnodes.specs.Nodes.{Shape}
use Rattle.pegnodes.specs.declared.by_byte.ByteVerdict.TheVariants.{Fails}
use Rattle.pegnodes.specs.declared.choice_table.Skip.{Skip}

module _ (nodes : List Shape) (bodies : List ℕ) (marks : ℕ → Bool) (tails : ℕ → ℕ → Bool) (b : ℕ) where
  -- Byte b decides that each of the first i alternatives of choice n fails. That evaluates so many evaluations of a
  -- node and the position, and none of them is a key; nor is what is left of the choice from one of them on.
  pub data FailFirst (n : ℕ) (ms : List ℕ) : ℕ → ℕ → Type 0 where
    fail_none : FailFirst n ms 0 0
    fail_more : {i m c d : ℕ} → FailFirst n ms i c → slice_get ms i ≡ Some m → tails n i ≡ false
        → Below nodes bodies marks tails b m Fails d → FailFirst n ms (suc i) (c + d)

-- the entry of a byte says how many alternatives it decides to fail, and by how many evaluations
abbrev pub IsChoiceTable : List Shape → List ℕ → (ℕ → Bool) → (ℕ → ℕ → Bool) → ℕ → List ℕ → List Skip → Type 0
IsChoiceTable nodes bodies marks tails n ms entries = (b : ℕ) (s : Skip) → slice_get entries b ≡ Some s
    → FailFirst nodes bodies marks tails b n ms s.index s.evals
