use Rattle.earley.proofs.DotTableLemmas.{below_step, below_next, below_done}
use Rattle.earley.proofs.dot_table.number_node.Goals as goal

pub loop-step-init : goal.loop-step-init
loop-step-init c = below_step c.args.node c.args.dots.now.items c.requires

pub loop-step-preserved : goal.loop-step-preserved
loop-step-preserved c = rw c.in_ok-push.ensures.items (below_next c.args.node c.loop-step.step c.loop-step.dots.items
    c.loop-step.invariant)

pub returns : goal.returns
returns c = below_done c.args.node c.loop-step.step c.loop-step.dots.items c.loop-step.invariant
