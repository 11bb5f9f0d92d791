-- The needs of the names so far.
use Rattle.fixpoint.specs.Demands.{demands_of}
use Rattle.fixpoint.specs.StepRows.{rows_of}
use Rattle.abnfcheck.specs.BrokenNeeds.{AreBrokenNeedsTo}
use Rattle.abnfcheck.proofs.table_marks.broken_needs.Given as goal

abbrev pub invariant-loop-id : goal.invariant-loop-id
invariant-loop-id l = AreBrokenNeedsTo (rows_of l.rows) l.prose (demands_of l.needs.items) l.id
