-- The symbols so far are shared.
use Rattle.std.proofs.Common.{◌≡◌, ◌<◌, ◌≤◌, ◌-◌, ℕ, length}
use Rattle.std.specs.Prelude.{slice_index}
use Rattle.abnfrun.proofs.factored.shared_end.Given as goal

abbrev pub invariant-loop-end : goal.invariant-loop-end
invariant-loop-end l = record {
  low : l.from ≤ l.end;
  first : l.end ≤ length l.a;
  second : l.end ≤ length l.b;
  same : (i : ℕ) → l.from ≤ i → i < l.end → slice_index l.b i ≡ slice_index l.a i;
}

abbrev pub decreases-loop-end : goal.decreases-loop-end
decreases-loop-end l = length l.a - l.end
