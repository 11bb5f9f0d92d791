use Rattle.std.proofs.Common.{arith, refl}
use Rattle.fixpoint.proofs.ReachLemmas as s
use Rattle.fixpoint.proofs.RowsOfLemmas as t
use Rattle.fixpoint.proofs.reach.mark_all.Goals as goal

pub mark_one-requires : goal.mark_one-requires
mark_one-requires c =
    let lt = t.within_at _ _ _ c.requires c.loop-m-test.true in
    let l = c.loop-m.invariant.count in
    omega (arith, lt, l)

pub loop-m-init : goal.loop-m-init
loop-m-init c = s.stacks_none _ _

pub loop-m-preserved : goal.loop-m-preserved
loop-m-preserved c = s.stacks_next _ _ _ c.loop-m-test.true refl c.loop-m.invariant c.in_ok-mark_one.ensures
