use Rattle.std.proofs.Common.{take}
use Rattle.fixpoint.specs.NumberMarks.{MarksThose}
use Rattle.fixpoint.proofs.marks.mark.Given as goal

abbrev pub invariant-loop-m : goal.invariant-loop-m
invariant-loop-m l = MarksThose (take l.m-index l.these) l.initial.marks l.marks
