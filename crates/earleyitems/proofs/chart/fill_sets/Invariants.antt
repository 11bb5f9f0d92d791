use Rattle.std.proofs.Common.{◌≡◌, ℕ, [], ◌+◌, ◌-◌, ◌≤◌, Some, length, map, slice_get}
use Rattle.std.specs.Prelude.{sum_by}
use Rattle.earleyitems.specs.Charts.{IsBuilt}
use Rattle.earleyitems.specs.Chosen.{AreReaders}
use Rattle.earleyitems.specs.Waiting.{AreWaitingAll}
use Rattle.earleyitems.specs.SetViews.{view, views}
use Rattle.earleyitems.specs.EarleySets.{EarleySet}
use Rattle.earleyitems.specs.ItemOwners.{prediction_rows, AreReadersOwned, AreSetsOwned}
use Rattle.earleyitems.proofs.chart.fill_sets.Given as goal

abbrev pub invariant-loop-most : goal.invariant-loop-most
invariant-loop-most g l = record {
  built : IsBuilt l.flat (map g.L.Letter.number l.line) (views l.flat 0 l.sets);
  counted : l.beside ≤ sum_by (λ set. length set) (views l.flat 0 l.sets);
  within : length l.sets ≤ length l.line + 1;
  no_predictions : l.kept.predictions ≡ [];
  no_items : l.kept.items.items ≡ [];
  waiting : AreWaitingAll l.flat l.sets;
  readers : AreReaders l.flat l.sets l.kept.postdot.readers.items;
  sized : (j : ℕ) (f : EarleySet) → slice_get l.sets j ≡ Some f → f.size ≡ length (view l.flat j f);
  owned : AreSetsOwned l.flat l.sets;
  reader_owners : (k : ℕ) → length l.sets ≡ k + 1
      → AreReadersOwned l.flat (prediction_rows l.sets) l.kept.postdot.readers.items;
}

abbrev pub decreases-loop-most : goal.decreases-loop-most
decreases-loop-most g l = length l.line + 1 - length l.sets
