use Rattle.std.proofs.Common.{◌≡◌, length}
use Rattle.earley.specs.RowItems.{Gains}
use Rattle.earley.proofs.RowStepLemmas.{IsScannedBelow}
use Rattle.earley.proofs.row_chart.scan_rows.Given as goal

abbrev pub invariant-loop-position : goal.invariant-loop-position
invariant-loop-position l = record {
  count : length l.set.all ≡ length l.table.dots.items;
  gains : Gains l.table.dots.items (IsScannedBelow l.table.flat.value l.table.dots.items l.value l.rows l.position)
      l.initial.set l.set;
}
