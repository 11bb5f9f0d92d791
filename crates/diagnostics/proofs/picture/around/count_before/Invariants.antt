use Rattle.std.proofs.Common.{◌≡◌, ◌+◌, length}
use Rattle.diagnostics.specs.LinesAround.{bytes_before}
use Rattle.diagnostics.proofs.picture.around.count_before.Given as goal

abbrev pub invariant-loop-last : goal.invariant-loop-last
invariant-loop-last l = record {
  size : l.size + length l.rest ≡ length l.text;
  same : l.size + bytes_before l.rule l.rest ≡ bytes_before l.rule l.text;
}

abbrev pub decreases-loop-last : goal.decreases-loop-last
decreases-loop-last l = length l.rest
