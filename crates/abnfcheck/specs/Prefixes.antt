-- The viable prefixes of a line.
use Rattle.std.specs.Prelude.{ℕ, ◌<◌, ◌≤◌, Bool, List, ◌++◌, length, take}
use Rattle.abnfread.specs.Element.{Rule}
use Rattle.abnfcheck.specs.Derivable.{AreLetters, RuleDerives}

-- the first n symbols are a viable prefix: they, and some more or none, are a list that the rule of that id derives
pub record BeginsMember (has : ℕ → Bool) (rules : List Rule) (id : ℕ) (x : List ℕ) (n : ℕ) : Type 0 where
  pub rest : List ℕ
  pub letters : AreLetters has rest
  pub derives : RuleDerives has rules id (take n x ++ rest)

-- the longest viable prefix has n symbols; 0 if the rule derives no list
pub record IsFurthest (has : ℕ → Bool) (rules : List Rule) (id : ℕ) (x : List ℕ) (n : ℕ) : Type 0 where
  pub within : n ≤ length x
  pub begins : 0 < n → BeginsMember has rules id x n
  pub last : (m : ℕ) → n < m → m ≤ length x → BeginsMember has rules id x m → ⊥
