use Rattle.std.proofs.Common.{arith, refl}
use Rattle.fixpoint.proofs.RowsOfLemmas as t
use Rattle.fixpoint.proofs.BacksLemmas as b
use Rattle.fixpoint.proofs.backs.set_backs.Goals as goal

pub set_back-requires-clause-second : goal.set_back-requires-clause-second
set_back-requires-clause-second c = t.within_at _ _ _ c.requires.second c.loop-m-test.true

pub set_back-requires-clause-room : goal.set_back-requires-clause-room
set_back-requires-clause-room c =
    let lt = t.within_at _ _ _ c.requires.second c.loop-m-test.true in
    let e = c.requires.room in
    let k = c.loop-m.invariant.count in
    omega (arith, lt, e, k)

pub loop-m-init : goal.loop-m-init
loop-m-init c = b.sets_none _ _ _

pub loop-m-preserved : goal.loop-m-preserved
loop-m-preserved c = b.sets_next _ _ _ _ _ c.loop-m-test.true refl c.loop-m.invariant c.set_back.ensures
