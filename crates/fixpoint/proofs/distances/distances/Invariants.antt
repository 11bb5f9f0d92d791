use Rattle.std.proofs.Common.{◌+◌, ◌-◌, length}
use Rattle.fixpoint.specs.StepRows.{slices_of}
use Rattle.fixpoint.specs.Fills.{IsFilling, untold_count}
use Rattle.fixpoint.proofs.distances.distances.Given as goal

abbrev pub invariant-loop-head : goal.invariant-loop-head
invariant-loop-head l = IsFilling (slices_of l.steps) l.from l.far.items l.queue.items l.head

abbrev pub decreases-loop-head : goal.decreases-loop-head
decreases-loop-head l = untold_count l.far.items + length l.queue.items - l.head
