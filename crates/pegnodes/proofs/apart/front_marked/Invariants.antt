use Rattle.std.proofs.Common.{◌≡◌, drop}
use Rattle.pegnodes.specs.ClosedMarks.{front_marked}
use Rattle.pegnodes.proofs.apart.front_marked.Given as goal

abbrev pub invariant-loop-member : goal.invariant-loop-member
invariant-loop-member l = front_marked l.empties l.marks (drop l.member-index l.members)
    ≡ front_marked l.empties l.marks l.members
