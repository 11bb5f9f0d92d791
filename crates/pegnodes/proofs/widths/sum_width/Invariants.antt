use Rattle.std.proofs.Common.{ℕ, List, take}
use Rattle.pegnodes.specs.Nodes.{Shape}
use Rattle.pegnodes.specs.Width.{AreWidths, WidthSum}
use Rattle.pegnodes.proofs.widths.sum_width.Given as goal

abbrev pub invariant-loop-member : goal.invariant-loop-member
invariant-loop-member l = (nodes : List Shape) (bodies : List ℕ) → AreWidths nodes bodies l.widths
    → WidthSum nodes bodies (take l.member-index l.members) l.sum
