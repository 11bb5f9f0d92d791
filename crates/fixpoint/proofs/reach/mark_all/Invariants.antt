use Rattle.std.proofs.Common.{take}
use Rattle.fixpoint.specs.Reach.{Stacks}
use Rattle.fixpoint.proofs.reach.mark_all.Given as goal

abbrev pub invariant-loop-m : goal.invariant-loop-m
invariant-loop-m l = Stacks (take l.m-index l.row) l.initial.marks l.initial.stack.items l.marks l.stack.items
