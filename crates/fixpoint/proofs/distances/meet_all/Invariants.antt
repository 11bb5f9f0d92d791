use Rattle.std.proofs.Common.{take}
use Rattle.fixpoint.specs.Fills.{Queues}
use Rattle.fixpoint.proofs.distances.meet_all.Given as goal

abbrev pub invariant-loop-m : goal.invariant-loop-m
invariant-loop-m l = Queues (take l.m-index l.row) l.d l.initial.far l.initial.queue.items l.far l.queue.items
