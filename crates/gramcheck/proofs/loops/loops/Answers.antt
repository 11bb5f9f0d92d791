use Rattle.std.proofs.Common.{arith, length, ap}
use Rattle.gramcheck.proofs.LoopMarksLemmas as o
use Rattle.pegnodes.proofs.HasShapeLemmas as t
use Rattle.gramcheck.proofs.loops.loops.Goals as goal

pub repeats-repeats-requires-clause-nulls : goal.repeats-repeats-requires-clause-nulls
repeats-repeats-requires-clause-nulls c = λ m h.
    let lt = c.requires.built.after _ m _ (t.node_at _ _ _ c.loop-n-test.true c.index-nodes-n.is) h in
    let low = c.loop-n-test.true in
    let k = c.requires.count in
    omega (arith, lt, low, k)

pub repeats-repeats-requires-clause-marks : goal.repeats-repeats-requires-clause-marks
repeats-repeats-requires-clause-marks c = λ m h.
    let lt = c.requires.built.after _ m _ (t.node_at _ _ _ c.loop-n-test.true c.index-nodes-n.is) h in
    let k = c.loop-n.invariant.count in
    let s = ap length c.deref.ensures.value in
    omega (arith, lt, k, s)

pub loop-n-preserved : goal.loop-n-preserved
loop-n-preserved c = rw (c.in_ok-push.ensures).items
    (o.loops_next _ _ _ _ _ _ c.requires.built c.loop-n.invariant
    (t.node_at _ _ _ c.loop-n-test.true c.index-nodes-n.is)
    (rw c.deref.ensures.value at c.repeats-repeats.ensures))
