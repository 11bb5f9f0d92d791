use Rattle.std.proofs.Common.{arith, subst}
use Rattle.std.specs.Prelude.{IfSome}
use Rattle.pegnodes.specs.Nodes.{shapes_of}
use Rattle.pegnodes.specs.Width.{Width}
use Rattle.pegnodes.proofs.HasShapeLemmas.{node_at}
use Rattle.pegnodes.proofs.WidthsLemmas as o
use Rattle.pegnodes.proofs.widths.add_widths.Goals as goal

pub loop-n-preserved : goal.loop-n-preserved
loop-n-preserved c = λ are.
    let at = node_at _ _ _ c.loop-n-test.true c.index-nodes-n.is in
    let old = c.loop-n.invariant are in
    let low = c.loop-n-test.true in
    let long = c.loop-n.auto.widths in
    let count = c.requires in
    let right = c.node_width.ensures (shapes_of c.args.nodes.now) c.loop-n.n at old in
    o.width_set (shapes_of c.args.nodes.now) c.args.bodies.now c.loop-n.widths c.loop-n.n c.node_width.result
    (omega (arith, low, long, count)) old
    (λ w is. subst (λ r. IfSome r (Width (shapes_of c.args.nodes.now) c.args.bodies.now c.loop-n.n)) is right)
