-- The item sets of a line: dotted rules, each with the letter where its expression began.
use Rattle.std.specs.Prelude.{◌≡◌, ℕ, ◌+◌, ◌<◌, List, slice_get, Some}
use Rattle.flatgrammar.specs.Flat.{Flat, Dot, Set, Has, Starts, Ends, Reads, Calls, Takes}

module _ (flat : Flat) (x : List ℕ) where
  -- `Holds j p i`: set j holds dotted rule p with origin i. An iteration that has to take a letter returns to a later
  -- set.
  pub data Holds : ℕ → Dot → ℕ → Type 0 where
    begins : {p : Dot} → Starts flat flat.start p → Holds 0 p 0
    called : {i j s : ℕ} {p q r : Dot} → Holds j q i → Calls flat q s r → Starts flat s p → Holds j p j
    has_read : {i j c : ℕ} {q r : Dot} {set : Set} → Holds j q i → Reads flat q set r → slice_get x j ≡ Some c
        → Has set c → Holds (j + 1) r i
    returned : {i j k s : ℕ} {q r p : Dot} → Holds j p k → Ends flat p s → Holds k q i → Calls flat q s r
        → (Takes flat q → k < j) → Holds j r i

-- set j is not empty
pub record HasItem (flat : Flat) (x : List ℕ) (j : ℕ) : Type 0 where
  pub position : Dot
  pub origin : ℕ
  pub held : Holds flat x j position origin
