use Rattle.std.proofs.Common.{◌≡◌, ◌-◌, List, ℕ, length}
use Rattle.fixpoint.specs.Demands.{Demand}
use Rattle.fixpoint.specs.NeedCounts.{AreUsers, IsComing, IsQueue}
use Rattle.fixpoint.specs.UserLists.{AreLists}
use Rattle.fixpoint.proofs.needs.run.Given as goal

abbrev pub invariant-loop-position : goal.invariant-loop-position
invariant-loop-position l = record {
  count : length l.left ≡ length l.fn.left;
  queue : IsQueue l.left l.order.items;
  coming : (needs : List Demand) (rows : List (List ℕ)) → AreLists l.users rows → AreUsers needs rows →
      IsComing needs l.fn.left l.fn.order.items 0 → IsComing needs l.left l.order.items l.position;
}

abbrev pub decreases-loop-position : goal.decreases-loop-position
decreases-loop-position l = length l.left - l.position
