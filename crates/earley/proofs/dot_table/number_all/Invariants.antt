use Rattle.earley.specs.DotTables.{AreBelow}
use Rattle.earley.proofs.dot_table.number_all.Given as goal

abbrev pub invariant-loop-node : goal.invariant-loop-node
invariant-loop-node l = AreBelow l.node l.dots.items
