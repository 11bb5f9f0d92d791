use Rattle.std.proofs.Common.{◌<◌, ℕ}
use Rattle.pegnodes.specs.Nodes.{shapes_of}
use Rattle.pegnodes.specs.Predictive.{IsApart}
use Rattle.pegnodes.proofs.apart.are_apart.Given as goal

abbrev pub invariant-loop-l : goal.invariant-loop-l
invariant-loop-l l = (m : ℕ) → m < l.l → IsApart (shapes_of l.nodes) l.bodies m
