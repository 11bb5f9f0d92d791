use Rattle.std.proofs.Common.{arith, sym, subst, Contains}
use Rattle.fixpoint.proofs.AreListsLemmas as l
use Rattle.fixpoint.proofs.RowsOfLemmas as t
use Rattle.fixpoint.proofs.needs.users_of.Goals as goal

pub add_all-requires : goal.add_all-requires
add_all-requires c = λ m h.
    let lt = c.requires.within _ m _ (t.demand_at _ _ c.loop-n-test.true) (subst (λ v. Contains v m) c.row.ensures h) in
    let k = c.loop-n.invariant.lists.count in
    let r = c.loop-n.invariant.needed.count in
    omega (arith, lt, k, r)

pub loop-n-init : goal.loop-n-init
loop-n-init c = l.hold_none _ _ _ (sym (t.length-demands c.args.needs.now)) c.in_ok-users.ensures

pub loop-n-preserved : goal.loop-n-preserved
loop-n-preserved c = l.hold_next _ _ _ _ _ c.loop-n.invariant (t.demand_at _ _ c.loop-n-test.true)
    (rw c.row.ensures at c.in_ok-add_all.ensures)

pub returns : goal.returns
returns c =
    let size = t.length-demands c.args.needs.now in
    let e = c.loop-n.auto.n-end in
    let f = c.loop-n-test.false in
    l.hold_all _ _ _ (omega (arith, size, e, f)) c.loop-n.invariant
