-- No member from `from` on stands before word i.
use Rattle.std.proofs.Common.{ℕ, ◌*◌, ◌≤◌, ◌<◌, Contains}
use Rattle.earley.proofs.row.BitRow.next.Given as goal

abbrev pub invariant-loop-i : goal.invariant-loop-i
invariant-loop-i l = record {
  beyond : l.from < l.i * 64;
  later : (x : ℕ) → Contains l.self x → l.from ≤ x → l.i * 64 ≤ x;
}
