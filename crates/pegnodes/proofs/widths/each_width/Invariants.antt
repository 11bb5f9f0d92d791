use Rattle.std.proofs.Common.{ℕ, List, take}
use Rattle.pegnodes.specs.Nodes.{Shape}
use Rattle.pegnodes.specs.Width.{AreWidths, WidthEach}
use Rattle.pegnodes.proofs.widths.each_width.Given as goal

abbrev pub invariant-loop-alternative : goal.invariant-loop-alternative
invariant-loop-alternative l = (nodes : List Shape) (bodies : List ℕ) → AreWidths nodes bodies l.widths
    → WidthEach nodes bodies (take l.alternative-index l.alternatives) l.width
