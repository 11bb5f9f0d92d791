use Rattle.std.proofs.Common.{arith, refl}
use Rattle.fixpoint.proofs.AreListsLemmas as l
use Rattle.fixpoint.proofs.RowsOfLemmas as t
use Rattle.fixpoint.proofs.needs.Users.add_all.Goals as goal

pub add-requires : goal.add-requires
add-requires c =
    let lt = t.within_at _ _ _ c.requires c.loop-m-test.true in
    let l = c.loop-m.invariant.count in
    omega (arith, lt, l)

pub loop-m-init : goal.loop-m-init
loop-m-init c = l.adds_none _ _

pub loop-m-preserved : goal.loop-m-preserved
loop-m-preserved c = l.adds_next _ _ _ _ _ _ _ c.loop-m-test.true refl c.loop-m.invariant c.in_ok-add.ensures
