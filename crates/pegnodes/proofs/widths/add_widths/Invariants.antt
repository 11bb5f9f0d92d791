use Rattle.pegnodes.specs.Nodes.{shapes_of}
use Rattle.pegnodes.specs.Width.{AreWidths}
use Rattle.pegnodes.proofs.widths.add_widths.Given as goal

abbrev pub invariant-loop-n : goal.invariant-loop-n
invariant-loop-n l = AreWidths (shapes_of l.nodes) l.bodies l.initial.widths
    → AreWidths (shapes_of l.nodes) l.bodies l.widths
