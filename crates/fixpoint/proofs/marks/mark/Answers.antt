use Rattle.std.proofs.Common.{arith, refl}
use Rattle.fixpoint.proofs.IsMarkedLemmas as m
use Rattle.fixpoint.proofs.RowsOfLemmas as t
use Rattle.fixpoint.proofs.marks.mark.Goals as goal

pub bounds-marks-m : goal.bounds-marks-m
bounds-marks-m c =
    let lt = t.within_at _ _ _ c.requires c.loop-m-test.true in
    let l = c.loop-m.invariant.count in
    omega (arith, lt, l)

pub loop-m-init : goal.loop-m-init
loop-m-init c = m.those_none _

pub loop-m-preserved : goal.loop-m-preserved
loop-m-preserved c = m.those_next _ _ _ _ _ c.loop-m-test.true refl c.loop-m.invariant (bounds-marks-m c)
