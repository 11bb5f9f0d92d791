use Rattle.std.proofs.Common.{◌≡◌, length}
use Rattle.pegnodes.proofs.foresight.verdicts.Given as goal

abbrev pub invariant-loop : goal.invariant-loop
invariant-loop l = length l.row.items ≡ length l.nodes
