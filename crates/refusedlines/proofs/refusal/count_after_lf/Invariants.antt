use Rattle.std.proofs.Common.{◌≡◌, ◌+◌, length}
use Rattle.diagnostics.specs.LinesAround.{bytes_before}
use Rattle.ruletable.specs.declared.lines.LineRule.TheVariants.{Lf}
use Rattle.refusedlines.proofs.refusal.count_after_lf.Given as goal

abbrev pub invariant-loop-last : goal.invariant-loop-last
invariant-loop-last l = record {
  size : l.size + length l.rest ≡ length l.bytes;
  same : l.size + bytes_before Lf l.rest ≡ bytes_before Lf l.bytes;
}

abbrev pub decreases-loop-last : goal.decreases-loop-last
decreases-loop-last l = length l.rest
