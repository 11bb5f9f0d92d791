use Rattle.lazydfa.proofs.AreUncountedLemmas.{AreUncountedTo}
use Rattle.lazydfa.proofs.automaton.are_uncounted.Given as goal

abbrev pub invariant-loop-node : goal.invariant-loop-node
invariant-loop-node l = AreUncountedTo l.tables.nodes.items l.node-index
