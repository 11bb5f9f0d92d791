-- The nearest of the numbers so far.
use Rattle.fixpoint.specs.StepRows.{slices_of}
use Rattle.fixpoint.specs.Fills.{IsNearestIfAny}
use Rattle.fixpoint.proofs.rounds.nearest_before.Given as goal

abbrev pub invariant-loop-number : goal.invariant-loop-number
invariant-loop-number l = IsNearestIfAny (slices_of l.steps) l.from l.far l.number l.best
