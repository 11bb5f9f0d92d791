use Rattle.fixpoint.specs.StepRows.{slices_of, AreStepsWithinTo}
use Rattle.fixpoint.proofs.rows.are_within.Given as goal

abbrev pub invariant-loop-row : goal.invariant-loop-row
invariant-loop-row l = AreStepsWithinTo (slices_of l.steps) l.row-index
