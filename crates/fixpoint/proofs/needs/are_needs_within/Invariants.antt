use Rattle.fixpoint.specs.Demands.{demands_of, AreNeedsWithinTo}
use Rattle.fixpoint.proofs.needs.are_needs_within.Given as goal

abbrev pub invariant-loop-need : goal.invariant-loop-need
invariant-loop-need l = AreNeedsWithinTo (demands_of l.needs) l.need-index
