-- The members of the other set that stand before word i are members.
use Rattle.std.proofs.Common.{ℕ, ◌*◌, ◌<◌, Contains}
use Rattle.earley.proofs.row.BitRow.has_all.Given as goal

abbrev pub invariant-loop-i : goal.invariant-loop-i
invariant-loop-i l = (x : ℕ) → Contains l.found x → x < l.i * 64 → Contains l.self x
