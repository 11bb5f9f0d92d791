use Rattle.std.proofs.Common.{◌≡◌, ◌++◌, map, take}
use Rattle.abnfblocks.specs.MaskSteps.{lines_shown}
use Rattle.abnfblocks.specs.TextLines.{numbered}
use Rattle.abnfblocks.proofs.rfctext.masked.push_lines.Given as goal

abbrev pub invariant-loop-line : goal.invariant-loop-line
invariant-loop-line l = map numbered l.out.items
    ≡ map numbered l.initial.out.items ++ lines_shown l.masks (take l.line-index (map numbered l.lines))
