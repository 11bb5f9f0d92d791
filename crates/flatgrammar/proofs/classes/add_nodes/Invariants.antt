use Rattle.flatgrammar.specs.FlatViews.{node_of}
use Rattle.flatgrammar.specs.ClassBounds.{AreMoreBounds, IsNodeSplit}
use Rattle.flatgrammar.proofs.AreClassesLemmas.{AreSplitTo, more_node_split}
use Rattle.flatgrammar.proofs.classes.add_nodes.Given as goal

abbrev pub invariant-loop-node : goal.invariant-loop-node
invariant-loop-node l = AreMoreBounds l.initial.bounds.numbers.items l.bounds.numbers.items
    × AreSplitTo node_of IsNodeSplit more_node_split l.bounds.numbers.items l.nodes l.node-index
