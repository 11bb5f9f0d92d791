-- The bytes before b have been added.
use Rattle.std.proofs.Common.{◌≡◌, ℕ, ◌⊎◌, ◌≤◌, ◌||◌, ◌&&◌, nat_le, nat_lt, false, length, get_or}
use Rattle.ruletable.proofs.byte_set.ByteSet.add_range.Given as goal

abbrev pub invariant-loop-b : goal.invariant-loop-b
invariant-loop-b l = record {
  upto : (l.b ≤ l.last) ⊎ (l.b ≡ l.first);
  count : length l.self ≡ length l.fn.self;
  members : (k : ℕ) → get_or l.self k false ≡ (get_or l.fn.self k false || (nat_le l.first k && nat_lt k l.b));
}
