use Rattle.std.proofs.Common.{ℕ, ◌<◌}
use Rattle.flatgrammar.specs.Ways.{AreWays, IsFound}
use Rattle.flatgrammar.proofs.targets.settle_all.Given as goal

abbrev pub invariant-loop-start : goal.invariant-loop-start
invariant-loop-start l = AreWays l.initial.ways l.ways × ((s : ℕ) → s < l.start → IsFound l.ways s)
