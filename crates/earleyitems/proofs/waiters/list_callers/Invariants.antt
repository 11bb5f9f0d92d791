use Rattle.std.proofs.Common.{◌≡◌, ℕ, List, ◌++◌, length, take}
use Rattle.flatgrammar.specs.declared.flat_item.Item.{Item}
use Rattle.flatgrammar.specs.declared.tables.Tables as code_flat
use Rattle.earleyitems.specs.Chosen.{callers_of, AreCalls}
use Rattle.earleyitems.specs.EarleySets.{GoesOn, firsts_of, AreSamePredictions}
use Rattle.earleyitems.specs.Waiting.{AreWaiting}
use Rattle.earleyitems.specs.ItemOwners.{AreCallersOwned, AreWaitersOwned}
use Rattle.earleyitems.proofs.waiters.list_callers.Given as goal

abbrev pub invariant-loop-caller : goal.invariant-loop-caller
invariant-loop-caller l = record {
  long : length l.records ≡ length l.initial.records;
  same : AreSamePredictions l.initial.records l.records;
  on : GoesOn l.initial.waiters.items l.waiters.items;
  more : (flat : code_flat.Tables) → AreCalls flat l.callers → (seen : List Item)
      → AreWaiting flat seen l.predictions (firsts_of l.initial.records) l.initial.waiters.items →
      AreWaiting flat (seen ++ callers_of (take l.caller-index l.callers)) l.predictions (firsts_of l.records)
      l.waiters.items;
  owners : (flat : code_flat.Tables) (rows : List (List ℕ)) → AreCallersOwned flat rows l.callers
      → AreWaitersOwned flat rows l.initial.waiters.items → AreWaitersOwned flat rows l.waiters.items;
}
