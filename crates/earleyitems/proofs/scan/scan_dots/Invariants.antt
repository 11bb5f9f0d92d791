use Rattle.std.proofs.Common.{ℕ, List, take, map}
use Rattle.flatgrammar.specs.Positions.{In}
use Rattle.flatgrammar.specs.declared.closure.DottedRule.{DottedRule}
use Rattle.earleyitems.specs.ItemOwners.{IsOwner, AreItemsOwned}
use Rattle.earleyitems.specs.ScannedItems.{AreScannedItems}
use Rattle.flatgrammar.specs.ItemClosures.{item_at}
use Rattle.earleyitems.proofs.scan.scan_dots.Given as goal

abbrev pub invariant-loop-dot : goal.invariant-loop-dot
invariant-loop-dot l = record {
  added : AreScannedItems l.flat l.value (map (item_at l.origin) (take l.dot-index l.from)) l.initial.set.items
      l.set.items;
  owners : (rows : List (List ℕ)) → ((p : DottedRule) → In p l.from → IsOwner l.flat rows (item_at l.origin p) l.owner)
      → AreItemsOwned l.flat rows l.initial.set → AreItemsOwned l.flat rows l.set;
}
