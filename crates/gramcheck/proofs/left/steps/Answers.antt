use Rattle.std.proofs.Common.{arith}
use Rattle.pegnodes.proofs.HasShapeLemmas as t
use Rattle.gramcheck.proofs.left.steps.Goals as goal

pub steps_from-requires : goal.steps_from-requires
steps_from-requires c = λ m h.
    let at = t.node_at _ _ _ c.loop-node-test.true c.node-item.is in
    let lt = c.requires.built.after _ m _ at h in
    let low = c.loop-node-test.true in
    let k = c.requires.count in
    omega (arith, lt, low, k)
