use Rattle.std.proofs.Common.{◌≡◌, drop}
use Rattle.pegnodes.specs.ClosedMarks.{members_apart}
use Rattle.pegnodes.proofs.apart.are_members_apart.Given as goal

abbrev pub invariant-loop-i : goal.invariant-loop-i
invariant-loop-i l = members_apart l.empties l.near l.last (drop l.i l.members)
    ≡ members_apart l.empties l.near l.last l.members
