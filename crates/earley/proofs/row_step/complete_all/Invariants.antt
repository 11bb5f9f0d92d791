use Rattle.std.proofs.Common.{◌≡◌, length, take}
use Rattle.earley.specs.RowIndexes.{IsAfterSome}
use Rattle.earley.specs.RowItems.{Gains}
use Rattle.earley.proofs.row_step.complete_all.Given as goal

abbrev pub invariant-loop-call : goal.invariant-loop-call
invariant-loop-call l = record {
  count : length l.set.all ≡ length l.table.dots.items;
  gains : Gains l.table.dots.items (IsAfterSome l.table.dots.items (take l.call-index l.call-items)
      l.filled.sets.items l.row (length l.filled.sets.items)) l.initial.set l.set;
}
