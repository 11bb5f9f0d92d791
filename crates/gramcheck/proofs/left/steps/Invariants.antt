use Rattle.std.proofs.Common.{◌≡◌, take}
use Rattle.fixpoint.specs.StepRows.{slices_of}
use Rattle.gramcheck.specs.NodeRows.{step_rows}
use Rattle.pegnodes.specs.Nodes.{shapes_of}
use Rattle.gramcheck.proofs.left.steps.Given as goal

abbrev pub invariant-loop-node : goal.invariant-loop-node
invariant-loop-node l = slices_of l.steps.items ≡ step_rows l.bodies l.nulls (shapes_of (take l.node-index l.nodes))
