use Rattle.std.proofs.Common.{ℕ, ◌≤◌, List}
use Rattle.flatgrammar.specs.declared.flat_item.Item.{Item}
use Rattle.flatgrammar.specs.declared.tables.Tables as code_flat
use Rattle.earleyitems.specs.ItemOwners.{AreItemsOwned, AreFirstOwned}
use Rattle.earleyitems.specs.Waiting.{Chain}
use Rattle.earleyitems.proofs.ListAllLemmas.{IsAlong}
use Rattle.earleyitems.proofs.fill.complete_listed.Given as goal

abbrev pub invariant-loop-at : goal.invariant-loop-at
invariant-loop-at l = record {
  along : (es : List Item) → Chain l.waiters l.first es → IsAlong l.waiters l.at es l.initial.set.items l.set.items;
  order : l.at ≤ l.first;
  owners : (flat : code_flat.Tables) (rows : List (List ℕ)) → AreFirstOwned flat rows l.waiters l.first
      → AreItemsOwned flat rows l.initial.set → AreItemsOwned flat rows l.set;
}

abbrev pub decreases-loop-at : goal.decreases-loop-at
decreases-loop-at l = l.at
