-- None of the lines so far.
use Rattle.std.proofs.Common.{Contains, take}
use Rattle.coverlines.specs.CoverLines.{line_items}
use Rattle.coverlines.proofs.needed.has_line.Given as goal

abbrev pub invariant-loop-other : goal.invariant-loop-other
invariant-loop-other l = Contains (line_items (take l.other-index l.lines)) l.line → ⊥
