-- The failures that the code finds. It serves private helpers alone.
use Rattle.std.specs.Prelude.{◌≡◌, ℕ, zero, suc, List, Option, Some, None}
use Rattle.matchfailure.specs.Farthest.{IsFarthest, NoneFails}
use Rattle.matchfailure.specs.declared.farthest.failures.Farthest.{Farthest}
use Rattle.pegnodes.specs.Nodes.{Shape}
use Rattle.pegread.specs.Pattern.{Rule}
use Rattle.matchfailure.specs.NoMatches.{UnitFailure}

-- the failure that was found, of a unit that begins after so many bytes
abbrev pub failure_found : ℕ → Option Farthest → Option UnitFailure
failure_found unit None = None
failure_found unit (Some far) = Some (record { unit = unit; position = far.position; expected = far.expected.items })

module _ (rules : List Rule) (start : ℕ) (nodes : List Shape) (bodies seen : List ℕ) where
  -- where a unit fails farthest, of which this is seen
  abbrev pub IsFound : Option Farthest → Type 0
  IsFound None = NoneFails rules nodes bodies seen start
  IsFound (Some far) = IsFarthest rules nodes bodies seen start far.position far.expected.items

  -- likewise of the unit before the last one, which begins so many bytes after it; there is none if it is no byte
  abbrev pub IsFoundBefore : ℕ → Option Farthest → Type 0
  IsFoundBefore zero found = found ≡ None
  IsFoundBefore (suc last) found = IsFound found
