use Rattle.std.proofs.Common.{◌≡◌, ◌+◌, length}
use Rattle.std.specs.List.{suffix_len}
use Rattle.abnfblocks.specs.LineKinds.{is_blank}
use Rattle.abnfblocks.proofs.rfctext.line_tests.count_blanks.Given as goal

abbrev pub invariant-loop-last : goal.invariant-loop-last
invariant-loop-last l = record {
  size : l.size + length l.rest ≡ length l.line;
  same : l.size + suffix_len is_blank l.rest ≡ suffix_len is_blank l.line;
}

abbrev pub decreases-loop-last : goal.decreases-loop-last
decreases-loop-last l = length l.rest
