use Rattle.std.proofs.Common.{◌≡◌, ℕ, ◌<◌, [], length, take, slice_index_or}
use Rattle.std.specs.List.{sum_by}
use Rattle.std.specs.List.Sorted.{IsStrictlyIncreasing}
use Rattle.earley.proofs.row_sets.kept_rows.Given as goal

abbrev pub invariant-loop-row : goal.invariant-loop-row
invariant-loop-row l = record {
  size : l.size ≡ sum_by (λ row. length row) (take l.row-index l.row-items);
  ascend : (p : ℕ) → p < l.row-index → IsStrictlyIncreasing (slice_index_or l.row-items p []);
}
