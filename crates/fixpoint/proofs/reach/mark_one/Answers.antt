use Rattle.std.proofs.Common.{rules}
use Rattle.fixpoint.proofs.ReachLemmas as s
use Rattle.fixpoint.proofs.reach.mark_one.Goals as goal

pub returns-in_ok-push : goal.returns-in_ok-push
returns-in_ok-push c = rw c.in_ok-push.ensures.items
    (s.stacks_new _ _ _ c.requires (search (rules, c.if-not-marks-m.true)))

pub returns-else-not-marks-m : goal.returns-else-not-marks-m
returns-else-not-marks-m c = s.stacks_old _ _ _ (search (rules, c.if-not-marks-m.false))
