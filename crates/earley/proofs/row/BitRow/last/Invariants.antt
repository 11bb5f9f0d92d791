-- No member stands in a word from `end` on.
use Rattle.std.proofs.Common.{ℕ, ◌*◌, ◌≤◌, ◌<◌, ◌^◌, Contains}
use Rattle.earley.proofs.row.BitRow.last.Given as goal

abbrev pub invariant-loop-end : goal.invariant-loop-end
invariant-loop-end l = record {
  short : l.end ≤ 2 ^ 57;
  earlier : (x : ℕ) → Contains l.self x → x < l.end * 64;
}

abbrev pub decreases-loop-end : goal.decreases-loop-end
decreases-loop-end l = l.end
