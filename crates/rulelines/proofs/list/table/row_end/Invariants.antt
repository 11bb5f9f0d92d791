use Rattle.std.proofs.Common.{◌<◌, ◌≤◌, ℕ}
use Rattle.std.specs.Prelude.{Contains}
use Rattle.rulelines.proofs.list.table.row_end.Given as goal

abbrev pub invariant-loop-next : goal.invariant-loop-next
invariant-loop-next l = (n : ℕ) → ((t : ℕ) → Contains l.row t → t < n) → l.end ≤ n
