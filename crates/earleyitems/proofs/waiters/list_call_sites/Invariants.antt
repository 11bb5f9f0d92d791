use Rattle.std.proofs.Common.{◌≡◌, ℕ, List, ◌++◌, length, map, take}
use Rattle.flatgrammar.specs.declared.flat_item.Item.{Item}
use Rattle.flatgrammar.specs.declared.tables.Tables as code_flat
use Rattle.flatgrammar.specs.ItemClosures.{AreAsks}
use Rattle.earleyitems.specs.EarleySets.{GoesOn, firsts_of, AreSamePredictions}
use Rattle.earleyitems.specs.Waiting.{call_site_at, AreWaiting}
use Rattle.flatgrammar.specs.Positions.{In}
use Rattle.flatgrammar.specs.declared.dot_list.Ask.{Ask}
use Rattle.earleyitems.specs.ItemOwners.{IsOwner, AreWaitersOwned}
use Rattle.earleyitems.proofs.waiters.list_call_sites.Given as goal

abbrev pub invariant-loop-site : goal.invariant-loop-site
invariant-loop-site l = record {
  long : length l.records ≡ length l.initial.records;
  same : AreSamePredictions l.initial.records l.records;
  on : GoesOn l.initial.waiters.items l.waiters.items;
  more : (flat : code_flat.Tables) → AreAsks flat l.from → (seen : List Item)
      → AreWaiting flat seen l.predictions (firsts_of l.initial.records) l.initial.waiters.items →
      AreWaiting flat (seen ++ map (call_site_at l.origin) (take l.site-index l.from)) l.predictions
      (firsts_of l.records)
      l.waiters.items;
  owners : (flat : code_flat.Tables) (rows : List (List ℕ))
      → ((site : Ask) → In site l.from → IsOwner flat rows (call_site_at l.origin site) l.owner)
      → AreWaitersOwned flat rows l.initial.waiters.items → AreWaitersOwned flat rows l.waiters.items;
}
