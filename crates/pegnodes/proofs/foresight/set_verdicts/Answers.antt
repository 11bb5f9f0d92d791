use Rattle.std.proofs.Common.{◌∙◌, arith}
use Rattle.pegnodes.specs.Nodes.{shape_of, shapes_of}
use Rattle.pegnodes.proofs.HasShapeLemmas.{node_at}
use Rattle.pegnodes.proofs.ForesightLemmas.{decided_more, decided_all}
use Rattle.pegnodes.proofs.foresight.set_verdicts.Goals as goal
use Rattle.pegnodes.proofs.foresight.set_verdicts.Goals.{then-not-are_same, else-not-are_same}

pub loop-n-preserved : goal.loop-n-preserved
loop-n-preserved c = elim c.if-not-are_same.branch [
  | then-not-are_same w ↦ record {
    count = omega arith;
    same = λ no. absurd (cc (w.changed-is, no));
    decided = λ no d like. absurd (cc (w.changed-is, no));
  }
  | else-not-are_same w ↦ record {
    count = omega arith;
    same = λ no. w.row-is ∙ c.loop-n.invariant.same (cc (w.changed-is, no));
    decided = λ no d like.
        let at = node_at _ _ _ c.loop-n-test.true c.index-nodes-n.is in
        decided_more (shapes_of c.args.nodes.now) c.args.bodies.now d c.loop-n.n c.loop-n.row _
        (shape_of c.index-nodes-n.result) w.row-is at
        (c.are_same.ensures w.if-not-are_same.false
        ∙ c.verdict_of-verdict.ensures d like)
        (c.loop-n.invariant.decided (cc (w.changed-is, no)) d like);
  }
]

pub returns-clause-decided : goal.returns-clause-decided
returns-clause-decided c = λ no d like.
    decided_all c.args.nodes.now c.args.bodies.now d c.loop-n.n c.loop-n.row c.loop-n-test.false
    (c.loop-n.invariant.decided no d like)
