use Rattle.std.proofs.Common.{◌+◌, ◌-◌, ◌≤◌, length, map}
use Rattle.earleyitems.specs.Charts.{IsBuilt}
use Rattle.earley.specs.RowCharts.{row_views, AreSizedRows}
use Rattle.earley.specs.RowIndexes.{AreIndexed}
use Rattle.earley.proofs.row_chart.row_sets.Given as goal

abbrev pub invariant-loop-alloc : goal.invariant-loop-alloc
invariant-loop-alloc g l = record {
  indexed : AreIndexed (length l.table.dots.items) l.filled;
  within : length l.filled.sets.items ≤ length l.line + 1;
  sized : AreSizedRows l.table.dots.items l.filled.sets.items;
  built : IsBuilt l.table.flat.value (map g.L.Letter.number l.line) (row_views l.table.dots.items l.filled.sets.items);
}

abbrev pub decreases-loop-alloc : goal.decreases-loop-alloc
decreases-loop-alloc g l = length l.line + 1 - length l.filled.sets.items
