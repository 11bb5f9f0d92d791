use Rattle.std.proofs.Common.{ℕ, get_or, None, arith}
use Rattle.std.proofs.lemmas.Option.{slice_get_within}
use Rattle.pegnodes.specs.Nodes.{Shape, shape_of, shapes_of}
use Rattle.pegnodes.specs.SettledNeeds.{IsSureNode}
use Rattle.pegnodes.proofs.HasShapeLemmas.{node_at, length-shapes}
use Rattle.pegnodes.proofs.SettledLemmas.{elements_more}
use Rattle.pegnodes.proofs.settled.are_nodes_sure.Goals as goal

pub loop-n-preserved : goal.loop-n-preserved
loop-n-preserved c = elements_more
    (λ (m : ℕ) (shape : Shape). IsSureNode (λ k. get_or c.args.row.now k None) c.args.late.now c.args.over.now shape)
    (shapes_of c.args.nodes.now) c.loop-n.n (shape_of c.index-nodes-n.result)
    (node_at _ _ _ c.loop-n-test.true c.index-nodes-n.is) c.loop-n.invariant
    (c.is_node_sure.ensures c.if-not-is_node_sure.false)

pub returns : goal.returns
returns c = λ yes n shape at.
    let low = slice_get_within (shapes_of c.args.nodes.now) n shape at in
    let long = length-shapes c.args.nodes.now in
    let all = c.loop-n-test.false in
    c.loop-n.invariant n shape (omega (arith, low, long, all)) at
