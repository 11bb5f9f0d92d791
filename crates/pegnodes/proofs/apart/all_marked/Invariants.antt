use Rattle.std.proofs.Common.{◌≡◌, drop}
use Rattle.pegnodes.specs.ClosedMarks.{all_marked}
use Rattle.pegnodes.proofs.apart.all_marked.Given as goal

abbrev pub invariant-loop-member : goal.invariant-loop-member
invariant-loop-member l = all_marked l.marks (drop l.member-index l.members) ≡ all_marked l.marks l.members
