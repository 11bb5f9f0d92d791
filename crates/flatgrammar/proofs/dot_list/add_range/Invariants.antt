use Rattle.std.proofs.Common.{◌≡◌, ◌<◌, ◌≤◌, length}
use Rattle.flatgrammar.specs.ItemClosures.{AreAdded}
use Rattle.flatgrammar.proofs.dot_list.add_range.Given as goal

abbrev pub invariant-loop-value : goal.invariant-loop-value
invariant-loop-value l = record {
  count : length l.lists.items ≡ length l.fn.lists.items;
  added : AreAdded (λ c. (l.low ≤ c) × (c ≤ l.high) × (c < l.value)) l.dot l.fn.lists.items l.lists.items;
}
