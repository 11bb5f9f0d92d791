-- The log of the keys, as contracts see it.
use Rattle.std.specs.Prelude.{◌≡◌, ℕ, zero, suc, ◌+◌, ◌-◌, ◌*◌, ◌<◌, ◌≤◌, ◌^◌, List, [], ◌∷◌, map, slice_get, Some}
use Rattle.memo.specs.declared.found.Found.TheVariants.{Took}
use Rattle.memo.specs.Parts.{IsIn}
use Rattle.memo.specs.declared.key_log.Given.{Given}
use Rattle.memo.specs.declared.key_log.Mark.{Mark}
use Rattle.memo.specs.declared.key_log.Stored.{Stored}
use Rattle.memo.specs.declared.task.MatchTask.{MatchTask}
use Rattle.memo.specs.declared.task.MatchTask.TheVariants.{Eval, Tail}

-- what is stored, the last one first, and how many rows have a mark
pub record LogView : Type 0 where
  pub stored : List Stored
  pub rows : ℕ

abbrev pub tasks_of : List Stored → List MatchTask
tasks_of stored = map (λ s. s.task) stored

abbrev pub row_of : MatchTask → ℕ
row_of (Eval n p) = n
row_of (Tail n i p) = n

abbrev pub position_of : MatchTask → ℕ
position_of (Eval n p) = p
position_of (Tail n i p) = p

-- what stands at so many positions from `from` on, the last position first
abbrev pub spread : (ℕ → Stored) → ℕ → ℕ → List Stored
spread at from zero = []
spread at from (suc n) = at (from + n) ∷ spread at from n

-- likewise, the first position first
abbrev pub rising : (ℕ → Stored) → ℕ → ℕ → List Stored
rising at from zero = []
rising at from (suc n) = at from ∷ rising at (suc from) n

-- the evaluations of a node at the positions from `from` to `to`, the first position first, all with the same outcome
abbrev pub run_of : ℕ → ℕ → ℕ → Given → List Stored
run_of node from to given = rising (λ p. record { task = Eval node p; given = given }) from (to + 1 - from)

-- the evaluations of a node at the positions from `from` on, short of `to`, the last position first: each takes one
-- position, with no events
abbrev pub steps_of : ℕ → ℕ → ℕ → List Stored
steps_of node from to =
    spread (λ p. record { task = Eval node p; given = record { found = Took (p + 1); events = 0 } }) from (to - from)

-- a key's numbers are of 32 bits
abbrev pub IsNarrow : MatchTask → Type 0
IsNarrow (Eval n p) = (n < 2 ^ 32) × (p < 2 ^ 32)
IsNarrow (Tail n i p) = (n < 2 ^ 32) × (i < 2 ^ 32) × (p < 2 ^ 32)

-- the number of a key; that of the next position is one more
abbrev pub number_of : MatchTask → ℕ
number_of (Eval n p) = n * 668265263 + p
number_of (Tail n i p) = n * 668265263 + (i + 1) * 374761393 + p

-- A key that is stored stands at its row's mark or below, and the mark is of this unit: beyond it none was stored.
abbrev pub AreBelow : ℕ → List Mark → List Stored → Type 0
AreBelow unit high stored = (s : Stored) → IsIn s stored →
    (mark : Mark) × (slice_get high (row_of s.task) ≡ Some mark) × (mark.unit ≡ unit)
    × (position_of s.task ≤ mark.highest)
