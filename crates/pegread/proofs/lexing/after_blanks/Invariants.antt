use Rattle.std.proofs.Common.{List, ℕ, length}
use Rattle.pegread.specs.Slices.{White}
use Rattle.pegread.proofs.lexing.after_blanks.Given as goal

abbrev pub invariant-loop-first : goal.invariant-loop-first
invariant-loop-first l = (r : List ℕ) → White l.rest r → White l.text r

abbrev pub decreases-loop-first : goal.decreases-loop-first
decreases-loop-first l = length l.rest
