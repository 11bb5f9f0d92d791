-- What can follow the first symbols of a line.
use Rattle.std.specs.Prelude.{◌≡◌, ℕ, ◌+◌, ◌↔◌, Bool, true, List, [], ◌∷◌, ◌++◌, take}
use Rattle.abnfread.specs.Element.{Rule}
use Rattle.abnfcheck.specs.Prefixes.{BeginsMember}
use Rattle.abnfcheck.specs.Derivable.{AreLetters, RuleDerives}
use Rattle.refusedlines.specs.LetterRuns.{AreApartFrom, RunsHave}
use Rattle.refusedlines.specs.declared.letterruns.run.LetterRun.{LetterRun}

-- the symbol c can: the first n symbols of x with c after them are a viable prefix
pub record CanFollow (has : ℕ → Bool) (rules : List Rule) (id : ℕ) (x : List ℕ) (n c : ℕ) : Type 0 where
  pub letter : has c ≡ true
  pub begins : BeginsMember has rules id (take n x ++ c ∷ []) (n + 1)

-- the end can: the rule derives the first n symbols of x
abbrev pub CanEnd : (ℕ → Bool) → List Rule → ℕ → List ℕ → ℕ → Type 0
CanEnd has rules id x n = RuleDerives has rules id (take n x)

-- all that can: the maximal runs of such symbols, in ascending order, and whether the end can
pub record AreFollowing (has : ℕ → Bool) (rules : List Rule) (id : ℕ) (x : List ℕ) (n : ℕ) (runs : List LetterRun)
    (ends : Bool) : Type 0 where
  pub apart : AreApartFrom 0 runs
  pub letters : (c : ℕ) → RunsHave runs c ↔ CanFollow has rules id x n c
  pub end : (ends ≡ true) ↔ CanEnd has rules id x n

-- the rule derives no list of symbols
abbrev pub DerivesNothing : (ℕ → Bool) → List Rule → ℕ → Type 0
DerivesNothing has rules id = (w : List ℕ) → AreLetters has w → RuleDerives has rules id w → ⊥
