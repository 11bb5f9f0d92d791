use Rattle.std.proofs.Common.{◌≡◌, length}
use Rattle.pegnodes.specs.Nodes.{shapes_of}
use Rattle.pegnodes.specs.Width.{AreWidths}
use Rattle.pegnodes.proofs.widths.widths.Given as goal

abbrev pub invariant-loop : goal.invariant-loop
invariant-loop l = (length l.widths.items ≡ length l.nodes) × AreWidths (shapes_of l.nodes) l.bodies l.widths.items
