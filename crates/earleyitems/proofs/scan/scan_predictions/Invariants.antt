use Rattle.std.proofs.Common.{◌≡◌, ℕ, List, [], take, slice_index_or}
use Rattle.earleyitems.specs.ScannedItems.{AreScannedItems}
use Rattle.flatgrammar.specs.ItemClosures.{closure_of}
use Rattle.earleyitems.specs.ItemOwners.{AreItemsOwned}
use Rattle.earleyitems.specs.SetViews.{expand}
use Rattle.earleyitems.specs.EarleySets.{predictions_of}
use Rattle.earleyitems.proofs.scan.scan_predictions.Given as goal

abbrev pub invariant-loop-owner : goal.invariant-loop-owner
invariant-loop-owner l = record {
  added : AreScannedItems l.flat l.value (expand (closure_of l.flat) l.origin (take l.owner (predictions_of l.records)))
      l.initial.set.items l.set.items;
  owners : (rows : List (List ℕ)) → slice_index_or rows l.origin [] ≡ predictions_of l.records
      → AreItemsOwned l.flat rows l.initial.set → AreItemsOwned l.flat rows l.set;
}
