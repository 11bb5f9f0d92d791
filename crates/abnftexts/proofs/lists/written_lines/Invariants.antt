use Rattle.std.proofs.Common.{◌≡◌, ◌++◌, drop, map}
use Rattle.abnfblocks.specs.TextLines.{numbered}
use Rattle.abnftexts.specs.WrittenLists.{lines_written}
use Rattle.abnftexts.proofs.lists.written_lines.Given as goal

-- the lines to come complete those so far
abbrev pub invariant-loop-i : goal.invariant-loop-i
invariant-loop-i l = map numbered l.written.items
    ++ lines_written (map numbered (drop l.i l.lines)) (map (λ p. p.now) (drop l.i l.parts.items))
    ≡ lines_written (map numbered l.lines) (map (λ p. p.now) l.parts.items)
