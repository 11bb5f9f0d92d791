use Rattle.std.proofs.Common.{◌≡◌, ◌++◌, take}
use Rattle.std.specs.List.{flat_map}
use Rattle.pegnodes.specs.Nodes.{shapes_of}
use Rattle.pegread.specs.PegViews.{rules_of}
use Rattle.matchfailure.specs.NoMatchLines.{expected_line}
use Rattle.matchfailure.proofs.explain.lines.push_each.Given as goal

abbrev pub invariant-loop-visit : goal.invariant-loop-visit
invariant-loop-visit l = l.out.items ≡ l.fn.out.items
    ++ flat_map (expected_line (rules_of l.peg.rules) (shapes_of l.peg.nodes) l.peg.bodies l.unit l.position)
    (take l.visit-index l.reported)
