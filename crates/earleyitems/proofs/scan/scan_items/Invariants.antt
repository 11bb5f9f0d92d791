use Rattle.std.proofs.Common.{ℕ, List, take}
use Rattle.earleyitems.specs.Chosen.{items_of}
use Rattle.earleyitems.specs.ItemOwners.{AreItemsOwned, AreReadersOwned}
use Rattle.earleyitems.specs.ScannedItems.{AreScannedItems}
use Rattle.earleyitems.proofs.scan.scan_items.Given as goal

abbrev pub invariant-loop-at : goal.invariant-loop-at
invariant-loop-at l = record {
  added : AreScannedItems l.flat l.value (items_of (take l.at-index l.from)) l.initial.set.items l.set.items;
  owners : (rows : List (List ℕ)) → AreReadersOwned l.flat rows l.from → AreItemsOwned l.flat rows l.initial.set
      → AreItemsOwned l.flat rows l.set;
}
