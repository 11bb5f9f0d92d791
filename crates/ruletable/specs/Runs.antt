-- The runs of a set of bytes: the maximal ranges of its members.
use Rattle.std.specs.Prelude.{◌≡◌, ℕ, zero, suc, ◌+◌, ◌-◌, ◌<◌, ◌≤◌, ◌==◌, ◌||◌, ◌&&◌, nat_le, not, Bool, true, false}
use Rattle.std.specs.Prelude.{if◌then◌else◌, List, [], ◌∷◌, Option, None, Some, get_or}

-- the set's test of a number
abbrev pub test_of : List Bool → ℕ → Bool
test_of set b = get_or set b false

-- one more number right before the runs, or apart from them
abbrev pub push : ℕ → List (ℕ × ℕ) → List (ℕ × ℕ)
push b [] = (b, b) ∷ []
push b (run ∷ runs) = if b + 1 == run.0 then (b, run.1) ∷ runs else (b, b) ∷ run ∷ runs

abbrev pub push_if : Bool → ℕ → List (ℕ × ℕ) → List (ℕ × ℕ)
push_if true b runs = push b runs
push_if false b runs = runs

-- the runs of those of the k numbers from n on that pass, each with its first and its last number, in ascending order
abbrev pub runs_from : (ℕ → Bool) → ℕ → ℕ → List (ℕ × ℕ)
runs_from f zero n = []
runs_from f (suc k) n = push_if (f n) n (runs_from f k (n + 1))

-- the runs of the bytes from n on that pass
unfoldable pub runs_after : (ℕ → Bool) → ℕ → List (ℕ × ℕ)
runs_after f n = runs_from f (256 - n) n

-- the runs of the bytes that pass
abbrev pub runs_of : (ℕ → Bool) → List (ℕ × ℕ)
runs_of f = runs_after f 0

-- whether a number is within one of the runs
abbrev pub in_runs : List (ℕ × ℕ) → ℕ → Bool
in_runs [] b = false
in_runs (run ∷ runs) b = (nat_le run.0 b && nat_le b run.1) || in_runs runs b

-- no run begins before n, and between two runs a number is left out
abbrev pub AreApart : ℕ → List (ℕ × ℕ) → Type 0
AreApart n [] = Unit {0}
AreApart n (run ∷ runs) = (n ≤ run.0) × (run.0 ≤ run.1) × AreApart (run.1 + 2) runs

-- the maximal ranges of a set's bytes, in ascending order: ranges with a number left out between each two, which hold
-- the set's bytes and nothing else
pub record AreRuns (set : List Bool) (runs : List (ℕ × ℕ)) : Type 0 where
  pub apart : AreApart 0 runs
  pub members : (b : ℕ) → b < 256 → in_runs runs b ≡ get_or set b false
  pub bytes : (b : ℕ) → 256 ≤ b → in_runs runs b ≡ false

-- the number at which an iterator over the runs goes on: a byte, or 256 where none is left
abbrev pub position_of : Option ℕ → ℕ
position_of None = 256
position_of (Some b) = b

-- the first of the bytes from n on that pass, or fail where `wanted` is false
abbrev pub IsFirst : (ℕ → Bool) → ℕ → Bool → Option ℕ → Type 0
IsFirst f n wanted None = (b : ℕ) → n ≤ b → b < 256 → f b ≡ not wanted
IsFirst f n wanted (Some m) = (n ≤ m) × (m < 256) × (f m ≡ wanted) × ((b : ℕ) → n ≤ b → b < m → f b ≡ not wanted)
