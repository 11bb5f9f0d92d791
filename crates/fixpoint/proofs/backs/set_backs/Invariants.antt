use Rattle.std.proofs.Common.{take}
use Rattle.fixpoint.specs.Fills.{SetsBacks}
use Rattle.fixpoint.proofs.backs.set_backs.Given as goal

abbrev pub invariant-loop-m : goal.invariant-loop-m
invariant-loop-m l = SetsBacks l.far l.n (take l.m-index l.row) l.initial.backs l.backs
