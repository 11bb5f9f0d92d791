use Rattle.std.proofs.Common.{take}
use Rattle.fixpoint.specs.Way.{Finishes}
use Rattle.fixpoint.proofs.cycles.finish.Given as goal

abbrev pub invariant-loop-n : goal.invariant-loop-n
invariant-loop-n l = Finishes (take l.n-index l.these) l.initial.positions l.positions
