use Rattle.std.proofs.Common.{◌≡◌, ◌≤◌, length}
use Rattle.abnfexplain.specs.AbnfMistakes.{bytes_after_blanks}
use Rattle.abnfexplain.proofs.abnf_mistakes.bytes_after_blanks.Given as goal

abbrev pub invariant-loop-rest : goal.invariant-loop-rest
invariant-loop-rest l = record {
  same : bytes_after_blanks l.rest ≡ bytes_after_blanks l.text;
  within : length l.rest ≤ length l.text;
}

abbrev pub decreases-loop-rest : goal.decreases-loop-rest
decreases-loop-rest l = length l.rest
