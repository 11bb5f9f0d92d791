use Rattle.std.proofs.Common.{◌≡◌, length, take}
use Rattle.earley.specs.RowItems.{Gains}
use Rattle.earley.proofs.RowStepLemmas.{StartsIn}
use Rattle.earley.proofs.row_step.predict_target.Given as goal

abbrev pub invariant-loop-position : goal.invariant-loop-position
invariant-loop-position l = record {
  count : length l.set.all ≡ length l.table.dots.items;
  gains : Gains l.table.dots.items
      (StartsIn l.table.dots.items (take l.position-index l.position-items) l.here) l.initial.set l.set;
}
