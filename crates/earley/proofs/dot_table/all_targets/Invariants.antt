use Rattle.std.proofs.Common.{◌≡◌, ℕ, Some, length, slice_get}
use Rattle.earley.specs.DotTables.{IsTargetAt}
use Rattle.earley.specs.declared.dot_table.TargetPositions.{TargetPositions}
use Rattle.earley.proofs.dot_table.all_targets.Given as goal

abbrev pub invariant-loop-target : goal.invariant-loop-target
invariant-loop-target l = record {
  count : length l.targets.items ≡ l.target;
  each : (t : ℕ) (r : TargetPositions) → slice_get l.targets.items t ≡ Some r
      → IsTargetAt l.flat l.numbers.dots.items l.steps t r;
}
