use Rattle.std.proofs.Common.{List, ℕ, length, ◌+◌, ◌≤◌}
use Rattle.pegread.specs.Slices.{Body}
use Rattle.pegread.proofs.SliceLemmas.{Bodies}
use Rattle.pegread.proofs.lexing.after_brace.Given as goal

-- what closes the open braces of the rest closes the whole, and the other way round
abbrev pub invariant-loop-first : goal.invariant-loop-first
invariant-loop-first l = record {
  room : l.depth + length l.rest ≤ length l.text;
  closes : (r : List ℕ) → Bodies l.depth l.rest r → Body l.text r;
  only : (r : List ℕ) → Body l.text r → Bodies l.depth l.rest r;
}

abbrev pub decreases-loop-first : goal.decreases-loop-first
decreases-loop-first l = length l.rest
