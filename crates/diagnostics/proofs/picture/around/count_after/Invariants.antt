use Rattle.std.proofs.Common.{◌≡◌, ◌+◌, length}
use Rattle.diagnostics.specs.LinesAround.{line_size}
use Rattle.diagnostics.proofs.picture.around.count_after.Given as goal

abbrev pub invariant-loop-first : goal.invariant-loop-first
invariant-loop-first l = record {
  size : l.size + length l.rest ≡ length l.text;
  same : l.size + line_size l.rule l.rest ≡ line_size l.rule l.text;
}

abbrev pub decreases-loop-first : goal.decreases-loop-first
decreases-loop-first l = length l.rest
