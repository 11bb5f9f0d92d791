use Rattle.earley.proofs.DotTableLemmas.{AreBelowStep}
use Rattle.earley.proofs.dot_table.number_node.Given as goal

abbrev pub invariant-loop-step : goal.invariant-loop-step
invariant-loop-step l = AreBelowStep l.node l.step l.dots.items
