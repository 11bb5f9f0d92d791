use Rattle.std.proofs.Common.{ℕ, List, take, map}
use Rattle.flatgrammar.specs.Positions.{In}
use Rattle.flatgrammar.specs.declared.closure.DottedRule.{DottedRule}
use Rattle.flatgrammar.specs.declared.tables.Tables as code_flat
use Rattle.earleyitems.specs.ItemOwners.{IsOwner, AreItemsOwned}
use Rattle.earleyitems.specs.ItemSets.{Adds}
use Rattle.flatgrammar.specs.ItemClosures.{item_at}
use Rattle.earleyitems.proofs.fill.add_dots.Given as goal

abbrev pub invariant-loop-dot : goal.invariant-loop-dot
invariant-loop-dot l = record {
  added : Adds (λ a. In a (map (item_at l.origin) (take l.dot-index l.dots))) l.initial.set.items l.set.items;
  owners : (flat : code_flat.Tables) (rows : List (List ℕ))
      → ((p : DottedRule) → In p l.dots → IsOwner flat rows (item_at l.origin p) l.owner)
      → AreItemsOwned flat rows l.initial.set → AreItemsOwned flat rows l.set;
}
