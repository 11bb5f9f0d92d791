use Rattle.std.proofs.Common.{List, ℕ, length, ◌≤◌}
use Rattle.pegread.specs.Slices.{Comment}
use Rattle.pegread.proofs.lexing.after_comment.Given as goal

abbrev pub invariant-loop-first : goal.invariant-loop-first
invariant-loop-first l = record {
  shorter : length l.rest ≤ length l.text;
  ends : (r : List ℕ) → Comment l.rest r → Comment l.text r;
}

abbrev pub decreases-loop-first : goal.decreases-loop-first
decreases-loop-first l = length l.rest
