use Rattle.std.proofs.Common.{◌≡◌, drop}
use Rattle.pegnodes.specs.ClosedMarks.{others_apart}
use Rattle.pegnodes.proofs.apart.are_others_apart.Given as goal

abbrev pub invariant-loop-i : goal.invariant-loop-i
invariant-loop-i l = others_apart l.near (drop l.i l.alternatives) ≡ others_apart l.near l.alternatives
