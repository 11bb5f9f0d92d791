use Rattle.std.proofs.Common.{◌+◌, length}
use Rattle.fixpoint.specs.Reach.{IsSpreading, unset}
use Rattle.fixpoint.specs.StepRows.{slices_of}
use Rattle.fixpoint.proofs.reach.spread.Given as goal

abbrev pub invariant-loop-n : goal.invariant-loop-n
invariant-loop-n l = IsSpreading (slices_of l.steps) l.these l.marks l.stack.items

abbrev pub decreases-loop-n : goal.decreases-loop-n
decreases-loop-n l = unset l.marks + length l.stack.items
