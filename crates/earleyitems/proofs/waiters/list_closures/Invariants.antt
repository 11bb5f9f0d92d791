use Rattle.std.proofs.Common.{◌≡◌, ℕ, List, [], ◌++◌, length, take, slice_index_or}
use Rattle.flatgrammar.specs.declared.flat_item.Item.{Item}
use Rattle.flatgrammar.specs.ItemClosures.{closure_of}
use Rattle.earleyitems.specs.SetViews.{expand}
use Rattle.earleyitems.specs.EarleySets.{GoesOn, firsts_of, AreSamePredictions}
use Rattle.earleyitems.specs.Waiting.{AreWaiting}
use Rattle.earleyitems.specs.ItemOwners.{AreWaitersOwned}
use Rattle.earleyitems.proofs.waiters.list_closures.Given as goal

abbrev pub invariant-loop-owner : goal.invariant-loop-owner
invariant-loop-owner l = record {
  long : length l.records ≡ length l.initial.records;
  same : AreSamePredictions l.initial.records l.records;
  on : GoesOn l.initial.waiters.items l.waiters.items;
  more : (seen : List Item) → AreWaiting l.flat seen l.predictions (firsts_of l.initial.records) l.initial.waiters.items
      →
      AreWaiting l.flat (seen ++ expand (closure_of l.flat) l.number (take l.owner l.list)) l.predictions
      (firsts_of l.records) l.waiters.items;
  owners : (rows : List (List ℕ)) → slice_index_or rows l.number [] ≡ l.list
      → AreWaitersOwned l.flat rows l.initial.waiters.items → AreWaitersOwned l.flat rows l.waiters.items;
}
