use Rattle.std.proofs.Common.{◌≡◌, length}
use Rattle.pegnodes.proofs.apart.closed_marks.Given as goal

abbrev pub invariant-loop : goal.invariant-loop
invariant-loop l = length l.marks.items ≡ length l.nodes
