use Rattle.std.proofs.Common.{arith, refl}
use Rattle.fixpoint.proofs.RowsOfLemmas as t
use Rattle.fixpoint.proofs.FillsLemmas as f
use Rattle.fixpoint.proofs.distances.meet_all.Goals as goal

pub meet-requires : goal.meet-requires
meet-requires c =
    let lt = t.within_at _ _ _ c.requires c.loop-m-test.true in
    let l = c.loop-m.invariant.count in
    omega (arith, lt, l)

pub loop-m-init : goal.loop-m-init
loop-m-init c = f.meets_none _ _ _

pub loop-m-preserved : goal.loop-m-preserved
loop-m-preserved c = f.meets_next _ _ _ _ c.loop-m-test.true refl c.loop-m.invariant c.in_ok-meet.ensures
