-- The bytes before b are not wanted.
use Rattle.std.proofs.Common.{◌≡◌, ℕ, ◌<◌, ◌≤◌, not, false, get_or}
use Rattle.ruletable.proofs.byte_set.ByteSet.first_from.Given as goal

abbrev pub invariant-loop-b : goal.invariant-loop-b
invariant-loop-b l = record {
  from_on : l.from ≤ l.b;
  before : (k : ℕ) → l.from ≤ k → k < l.b → get_or l.self k false ≡ not l.member;
}
