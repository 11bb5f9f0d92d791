use Rattle.std.proofs.Common.{arith, refl, rules}
use Rattle.fixpoint.proofs.FinishesLemmas as f
use Rattle.fixpoint.proofs.RowsOfLemmas as m
use Rattle.fixpoint.proofs.cycles.finish.Goals as goal

pub bounds-positions-n : goal.bounds-positions-n
bounds-positions-n c =
    let lt = m.within_at _ _ _ c.requires c.loop-n-test.true in
    let l = c.loop-n.invariant.count in
    omega (arith, lt, l)

pub loop-n-init : goal.loop-n-init
loop-n-init c = f.finishes_none _

pub loop-n-preserved : goal.loop-n-preserved
loop-n-preserved c = f.finishes_next _ _ _ _ _ c.loop-n-test.true refl c.loop-n.invariant (bounds-positions-n c)

pub offset_bounds-positions-n : goal.offset_bounds-positions-n
offset_bounds-positions-n c = let lt = bounds-positions-n c in search (rules, lt)
