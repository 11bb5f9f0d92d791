use Rattle.std.proofs.Common.{List, ℕ, length}
use Rattle.pegread.specs.Slices.{Names}
use Rattle.pegread.proofs.lexing.after_name.Given as goal

-- whatever ends the rest ends the whole
abbrev pub invariant-loop-first : goal.invariant-loop-first
invariant-loop-first l = (r : List ℕ) → Names l.rest r → Names l.text r

abbrev pub decreases-loop-first : goal.decreases-loop-first
decreases-loop-first l = length l.rest
