-- What is kept of the units before. It serves private helpers alone.
use Rattle.std.specs.Prelude.{◌≡◌, ℕ, ◌+◌, ◌≤◌, ◌++◌, false, List, [], length, Result, Ok, Err}
use Rattle.std.proofs.Common.{Vec, Global}
use Rattle.pegread.specs.Pattern.{Rule}
use Rattle.matchfailure.specs.NoMatchLines.{long_unit_lines}
use Rattle.matchfailure.specs.NoMatches.{IsNoMatchReported, unit_before}
use Rattle.matchfailure.specs.InputPositions.{position_after}
use Rattle.ruletable.specs.declared.memory.Memory.{Memory}
use Rattle.pegrun.specs.StopsExplained.{HasLines}
use Rattle.pegrun.specs.declared.past.Past.{Past}
use Rattle.toolrun.specs.RunEnd.{refusals_text}
use Rattle.toolrun.specs.declared.ending.Ending.{Ending}
use Rattle.toolrun.specs.declared.ending.Ending.TheVariants.{Plain, Explained, Unexplained}
use Rattle.toolrun.specs.declared.stop.Stop.{Stop}
use Rattle.toolrun.specs.declared.stop.Stop.TheVariants.{Quiet, NoMatch, LongUnit, LongLine, Broken, NoMemory, Refused}
use Rattle.toolrun.specs.declared.stop.Stop.TheVariants.{CostlyUnit, CostlyLine, Unreadable}

-- the next unit begins after these bytes, and the last of them are kept, unless an allocation failed
pub record Follows (past : Past) (before : List ℕ) : Type 0 where
  pub next : past.next ≡ position_after before
  pub front : List ℕ
  pub at : past.at ≡ position_after front
  pub room : length front + length past.bytes.items ≤ length before
  pub whole : past.lost ≡ false → before ≡ front ++ past.bytes.items

-- the lines that explain a stop after these bytes, where those are held
abbrev pub LinesAfter : List Rule → ℕ → Past → List ℕ → List ℕ → Stop → List ℕ → Type 0
LinesAfter rules start past before held (Quiet status) why = ⊥
LinesAfter rules start past before held (NoMatch at) why = (past.lost ≡ false)
    × IsNoMatchReported rules start (before ++ held) (unit_before past.at.byte (length past.bytes.items))
    (length before)
    why
LinesAfter rules start past before held (LongUnit at limit) why = why ≡ long_unit_lines (position_after before)
LinesAfter rules start past before held (CostlyUnit at budget) why = ⊥
LinesAfter rules start past before held (LongLine line limit) why = ⊥
LinesAfter rules start past before held (CostlyLine line budget) why = ⊥
LinesAfter rules start past before held Broken why = ⊥
LinesAfter rules start past before held NoMemory why = ⊥
LinesAfter rules start past before held (Refused fault) why = ⊥
LinesAfter rules start past before held Unreadable why = ⊥

-- the run ends with these lines, or an allocation failed
abbrev pub AreLinesOf : Result (Vec ℕ Global) Memory → List ℕ → Type 0
AreLinesOf (Ok why) lines = lines ≡ why.items
AreLinesOf (Err fault) lines = ⊥

-- how a run ends that stopped so, where these lines explain it, or an allocation failed
abbrev pub IsEndingWith : Stop → Result (Vec ℕ Global) Memory → Ending → Type 0
IsEndingWith stop why (Plain is) = ⊥
IsEndingWith stop why (Explained reported is lines) = (refusals_text reported ≡ []) × (is ≡ stop)
    × AreLinesOf why lines.items
IsEndingWith stop why (Unexplained reported is) = (refusals_text reported ≡ []) × (is ≡ stop)

-- how a run ends that stopped so and is explained
abbrev pub EndsAfter : List Rule → ℕ → Past → List ℕ → List ℕ → Stop → Ending → Type 0
EndsAfter rules start past before held stop (Plain is) = (is ≡ stop) × (HasLines stop → ⊥)
EndsAfter rules start past before held stop (Explained reported is why) = (refusals_text reported ≡ []) × (is ≡ stop)
    × LinesAfter rules start past before held stop why.items
EndsAfter rules start past before held stop (Unexplained reported is) = (refusals_text reported ≡ []) × (is ≡ stop)
    × HasLines stop
