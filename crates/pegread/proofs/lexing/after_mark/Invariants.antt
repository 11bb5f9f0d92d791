use Rattle.std.proofs.Common.{List, ℕ, length}
use Rattle.pegread.specs.Slices.{Closes}
use Rattle.pegread.proofs.lexing.after_mark.Given as goal

-- what closes the rest closes the whole, and the other way round
abbrev pub invariant-loop-first : goal.invariant-loop-first
invariant-loop-first l = (r : List ℕ) → (Closes l.mark l.rest r → Closes l.mark l.text r)
    × (Closes l.mark l.text r → Closes l.mark l.rest r)

abbrev pub decreases-loop-first : goal.decreases-loop-first
decreases-loop-first l = length l.rest
