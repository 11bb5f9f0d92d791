use Rattle.std.proofs.Common.{arith, refl, rules}
use Rattle.fixpoint.proofs.TallyLemmas as f
use Rattle.fixpoint.proofs.RowsOfLemmas as m
use Rattle.fixpoint.proofs.cycles.set_all.Goals as goal

pub bounds-ranks-n : goal.bounds-ranks-n
bounds-ranks-n c =
    let lt = m.within_at _ _ _ c.requires c.loop-n-test.true in
    let l = c.loop-n.invariant.count in
    omega (arith, lt, l)

pub loop-n-init : goal.loop-n-init
loop-n-init c = f.sets_none _ _

pub loop-n-preserved : goal.loop-n-preserved
loop-n-preserved c = f.sets_next _ _ _ _ _ _ c.loop-n-test.true refl c.loop-n.invariant (bounds-ranks-n c)

pub offset_bounds-ranks-n : goal.offset_bounds-ranks-n
offset_bounds-ranks-n c = let lt = bounds-ranks-n c in search (rules, lt)
