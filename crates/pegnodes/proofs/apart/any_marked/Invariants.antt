use Rattle.std.proofs.Common.{◌≡◌, drop}
use Rattle.pegnodes.specs.ClosedMarks.{any_marked}
use Rattle.pegnodes.proofs.apart.any_marked.Given as goal

abbrev pub invariant-loop-member : goal.invariant-loop-member
invariant-loop-member l = any_marked l.marks (drop l.member-index l.members) ≡ any_marked l.marks l.members
