use Rattle.std.proofs.Common.{◌≡◌, map, take}
use Rattle.pegnodes.specs.Nodes.{shapes_of}
use Rattle.matchfailure.specs.ReportOrder.{key_of}
use Rattle.matchfailure.proofs.explain.order.keys_of.Given as goal

abbrev pub invariant-loop-visit : goal.invariant-loop-visit
invariant-loop-visit l =
    l.keys.items ≡ map (key_of l.far (shapes_of l.peg.nodes) l.peg.bodies) (take l.visit-index l.expected)
