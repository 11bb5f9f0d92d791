use Rattle.std.proofs.Common.{◌≡◌, ◌+◌, length}
use Rattle.findings.specs.FirstRules.{size_of_word}
use Rattle.findings.proofs.judged.word_size.Given as goal

abbrev pub invariant-loop-first : goal.invariant-loop-first
invariant-loop-first l = record {
  size : l.size + length l.rest ≡ length l.bytes;
  same : l.size + size_of_word l.rest ≡ size_of_word l.bytes;
}

abbrev pub decreases-loop-first : goal.decreases-loop-first
decreases-loop-first l = length l.rest
