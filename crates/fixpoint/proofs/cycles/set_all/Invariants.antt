use Rattle.std.proofs.Common.{take}
use Rattle.fixpoint.specs.Way.{SetsAll}
use Rattle.fixpoint.proofs.cycles.set_all.Given as goal

abbrev pub invariant-loop-n : goal.invariant-loop-n
invariant-loop-n l = SetsAll (take l.n-index l.these) l.rank l.initial.ranks l.ranks
