use Rattle.std.proofs.Common.{◌≡◌, ℕ, List, take, ◌+◌, ◌-◌, ◌*◌, length}
use Rattle.flatgrammar.specs.Positions.{positions}
use Rattle.flatgrammar.specs.NodeSteps.{flat_of}
use Rattle.earleyitems.specs.Chosen.{items_of, ReadsSome, AreChosen, AreCallers}
use Rattle.earleyitems.specs.Closed.{HoldAll, Keeps}
use Rattle.earleyitems.specs.ItemOwners.{prediction_rows_with, AreItemsOwned, AreCallersOwned, AreReadersOwned}
use Rattle.flatgrammar.specs.ItemClosures.{closure_of}
use Rattle.earleyitems.specs.SetViews.{expand, full, views, IsWorklist}
use Rattle.earleyitems.proofs.fill.fill.Given as goal

abbrev pub invariant-loop-item_index : goal.invariant-loop-item_index
invariant-loop-item_index l = record {
  going : (line : List ℕ) → HoldAll (flat_of l.flat) line (views l.flat 0 l.sets)
      → IsWorklist l.flat line (views l.flat 0 l.sets) 0 0 l.initial.predictions l.initial.items.items
      → IsWorklist l.flat line (views l.flat 0 l.sets) l.item_index l.prediction_index l.predictions l.items.items;
  keeps : Keeps (full (closure_of l.flat) (length (views l.flat 0 l.sets)) l.initial.predictions l.initial.items.items)
      (full (closure_of l.flat) (length (views l.flat 0 l.sets)) l.predictions l.items.items);
  callers : AreCallers l.flat (take l.item_index l.items.items) l.postdot.callers.items;
  counted : (j : ℕ) → l.closures ≡ length (expand (closure_of l.flat) j (take l.prediction_index l.predictions));
  readers : AreChosen (ReadsSome l.flat) (take l.item_index l.items.items) (items_of l.postdot.readers.items);
  owners : AreItemsOwned l.flat (prediction_rows_with l.sets l.predictions) l.items;
  caller_owners : AreCallersOwned l.flat (prediction_rows_with l.sets l.predictions) l.postdot.callers.items;
  reader_owners : AreReadersOwned l.flat (prediction_rows_with l.sets l.predictions) l.postdot.readers.items;
}

abbrev pub decreases-loop-item_index : goal.decreases-loop-item_index
decreases-loop-item_index l = positions (flat_of l.flat).nodes * (length (views l.flat 0 l.sets) + 1)
    + length l.flat.nodes.items - (l.item_index + l.prediction_index)
