use Rattle.std.proofs.Common.{◌≡◌, take}
use Rattle.fixpoint.specs.Demands.{demands_of}
use Rattle.pegnodes.specs.Nodes.{shapes_of}
use Rattle.pegexplain.specs.SureNodes.{sure_demands}
use Rattle.pegexplain.proofs.sure.needs.Given as goal

abbrev pub invariant-loop-node : goal.invariant-loop-node
invariant-loop-node l = demands_of l.needs.items ≡ sure_demands l.bodies (shapes_of (take l.node-index l.nodes))
