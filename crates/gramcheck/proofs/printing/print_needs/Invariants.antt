use Rattle.std.proofs.Common.{◌≡◌, take}
use Rattle.fixpoint.specs.Demands.{demands_of}
use Rattle.pegnodes.specs.Nodes.{shapes_of}
use Rattle.gramcheck.specs.Printing.{print_demands}
use Rattle.gramcheck.proofs.printing.print_needs.Given as goal

abbrev pub invariant-loop-node : goal.invariant-loop-node
invariant-loop-node l = demands_of l.needs.items ≡ print_demands l.bodies (shapes_of (take l.node-index l.nodes))
