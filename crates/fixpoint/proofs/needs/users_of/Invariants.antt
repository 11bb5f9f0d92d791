use Rattle.fixpoint.specs.Demands.{demands_of}
use Rattle.fixpoint.specs.UserLists.{HoldUsersTo}
use Rattle.fixpoint.proofs.needs.users_of.Given as goal

abbrev pub invariant-loop-n : goal.invariant-loop-n
invariant-loop-n l = HoldUsersTo (demands_of l.needs) l.users l.n
