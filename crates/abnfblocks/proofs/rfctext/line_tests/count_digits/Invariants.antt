use Rattle.std.proofs.Common.{◌≡◌, ◌+◌, length}
use Rattle.std.specs.Char.{is_ascii_digit}
use Rattle.std.specs.List.{suffix_len}
use Rattle.abnfblocks.proofs.rfctext.line_tests.count_digits.Given as goal

abbrev pub invariant-loop-last : goal.invariant-loop-last
invariant-loop-last l = record {
  size : l.size + length l.rest ≡ length l.line;
  same : l.size + suffix_len is_ascii_digit l.rest ≡ suffix_len is_ascii_digit l.line;
}

abbrev pub decreases-loop-last : goal.decreases-loop-last
decreases-loop-last l = length l.rest
