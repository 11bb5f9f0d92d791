use Rattle.std.proofs.Common.{ℕ, ◌<◌}
use Rattle.pegnodes.specs.Nodes.{shapes_of}
use Rattle.pegnodes.specs.Predictive.{IsDecisive}
use Rattle.pegnodes.proofs.predictive.is_predictive.Given as goal

abbrev pub invariant-loop-b : goal.invariant-loop-b
invariant-loop-b l = (b : ℕ) → b < l.b → IsDecisive (shapes_of l.nodes) l.bodies b
