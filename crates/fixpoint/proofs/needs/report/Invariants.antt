use Rattle.std.proofs.Common.{List, ℕ}
use Rattle.fixpoint.specs.StepRows.{row_at}
use Rattle.fixpoint.specs.UserLists.{AreLists, IsReporting}
use Rattle.fixpoint.proofs.needs.report.Given as goal

abbrev pub invariant-loop-at : goal.invariant-loop-at
invariant-loop-at l = (rows : List (List ℕ)) → AreLists l.users rows →
    IsReporting l.users.links.items l.at (row_at rows l.m) l.initial.left l.initial.order.items l.left l.order.items

abbrev pub decreases-loop-at : goal.decreases-loop-at
decreases-loop-at l = l.at
