use Rattle.std.proofs.Common.{◌≡◌, drop}
use Rattle.pegnodes.specs.ClosedMarks.{back_marked}
use Rattle.pegnodes.proofs.apart.back_marked.Given as goal

abbrev pub invariant-loop-i : goal.invariant-loop-i
invariant-loop-i l = back_marked l.empties l.marks (drop l.i l.members) ≡ back_marked l.empties l.marks l.members
