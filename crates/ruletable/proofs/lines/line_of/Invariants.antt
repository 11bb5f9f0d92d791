-- The lines counted so far, and those that end before the offset in the rest.
use Rattle.std.proofs.Common.{◌≡◌, ◌+◌, ◌≤◌, length}
use Rattle.ruletable.specs.Lines.{line_at, line_ends}
use Rattle.ruletable.proofs.lines.line_of.Given as goal

abbrev pub invariant-loop-first : goal.invariant-loop-first
invariant-loop-first l = record {
  line : l.line + line_ends l.rule l.rest l.left ≡ line_at l.rule l.text l.offset;
  room : l.line + length l.rest ≤ 1 + length l.text;
}

abbrev pub decreases-loop-first : goal.decreases-loop-first
decreases-loop-first l = length l.rest
