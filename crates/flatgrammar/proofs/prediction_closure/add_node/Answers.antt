use Rattle.std.proofs.Common.{◌≡◌, ◌∙◌, arith}
use Rattle.flatgrammar.proofs.PredictionClosureLemmas.{node_none, node_more, node_done}
use Rattle.flatgrammar.proofs.prediction_closure.add_node.Goals as goal

pub loop-step-init : goal.loop-step-init
loop-step-init c = node_none c.args.flat.now c.args.inlines.now c.args.node _

pub loop-step-preserved : goal.loop-step-preserved
loop-step-preserved c = node_more c.args.flat.now c.args.inlines.now c.args.node c.loop-step.step _ _ _
    c.loop-step.invariant c.in_ok-add_dot.ensures

pub returns : goal.returns
returns c = node_done c.args.flat.now c.args.inlines.now c.args.node c.loop-step.step _ _
    ((let le = c.loop-step.auto.step-end in let over = c.loop-step-test.false in let same : c.loop-step.step
    ≡ c.begin_steps-step-end.result = omega (arith, le, over) in same) ∙ c.begin_steps-step-end.ensures)
    c.loop-step.invariant
