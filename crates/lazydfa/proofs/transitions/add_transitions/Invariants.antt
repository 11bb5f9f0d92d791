use Rattle.lazydfa.specs.Transitions.{AreTransitionsAdded}
use Rattle.lazydfa.proofs.transitions.add_transitions.Given as goal

abbrev pub invariant-loop : goal.invariant-loop
invariant-loop l = AreTransitionsAdded l.initial.transitions.items l.transitions.items
