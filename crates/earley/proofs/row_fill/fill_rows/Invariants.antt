use Rattle.std.proofs.Common.{ℕ, List}
use Rattle.flatgrammar.specs.NodeSteps.{flat_of}
use Rattle.flatgrammar.specs.declared.flat_item.Item.{Item}
use Rattle.earleyitems.specs.Closed.{HoldAll}
use Rattle.earley.specs.RowCharts.{row_views, IsRowWorklist}
use Rattle.earley.specs.RowItems.{IsRowItem}
use Rattle.earley.proofs.row_fill.fill_rows.Given as goal

abbrev pub invariant-loop-iteration : goal.invariant-loop-iteration
invariant-loop-iteration l = record {
  keeps : (a : Item) → IsRowItem l.table.dots.items l.initial.set.all a → IsRowItem l.table.dots.items l.set.all a;
  worklist : (line : List ℕ) → HoldAll (flat_of l.table.flat.value) line
      (row_views l.table.dots.items l.filled.sets.items) → IsRowWorklist l.table.flat.value l.table.dots.items line
      (row_views l.table.dots.items l.filled.sets.items) l.initial.set
      → IsRowWorklist l.table.flat.value l.table.dots.items line
      (row_views l.table.dots.items l.filled.sets.items) l.set;
}
