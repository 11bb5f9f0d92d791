use Rattle.std.proofs.Common.{take}
use Rattle.fixpoint.specs.NeedCounts.{IsQueue}
use Rattle.fixpoint.proofs.needs.ready.Given as goal

abbrev pub invariant-loop-n : goal.invariant-loop-n
invariant-loop-n l = IsQueue (take l.n l.left) l.order.items
