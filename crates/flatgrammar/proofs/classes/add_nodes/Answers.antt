use Rattle.std.proofs.Common.{sym, ap, ◌∙◌}
use Rattle.std.proofs.lemmas.Option.{slice_get-get_or}
use Rattle.std.specs.Prelude.{Some}
use Rattle.flatgrammar.specs.FlatViews.{node_of}
use Rattle.flatgrammar.specs.ClassBounds.{IsNodeSplit}
use Rattle.flatgrammar.proofs.AreClassesLemmas.{more_node_split, split_to_next, split_to_end}
use Rattle.flatgrammar.proofs.classes.add_nodes.Goals as goal

pub loop-node-preserved : goal.loop-node-preserved
loop-node-preserved c = (
  λ i h. c.loop-node.invariant.0 i (c.in_ok-add_node.ensures.more i h),
  split_to_next node_of IsNodeSplit more_node_split c.loop-node.bounds.numbers.items c.add_node.new.bounds.numbers.items
      c.args.nodes.now c.loop-node.node-index c.node-item.result
      (slice_get-get_or c.args.nodes.now c.loop-node.node-index c.node-item.result c.loop-node-test.true
      ∙ ap (λ v. Some v) (sym c.node-item.is))
      c.in_ok-add_node.ensures.more c.in_ok-add_node.ensures.split c.loop-node.invariant.1,
)

pub returns-clause-split : goal.returns-clause-split
returns-clause-split c =
    split_to_end node_of IsNodeSplit more_node_split c.loop-node.bounds.numbers.items c.args.nodes.now
    c.loop-node.node-index c.loop-node-test.false c.loop-node.invariant.1
