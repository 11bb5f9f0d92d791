use Rattle.std.proofs.Common.{◌≡◌, take}
use Rattle.fixpoint.specs.StepRows.{slices_of, rows_of}
use Rattle.fixpoint.proofs.owned.slices.Given as goal

abbrev pub invariant-loop-row : goal.invariant-loop-row
invariant-loop-row l = slices_of l.slices.items ≡ rows_of (take l.row-index l.rows)
