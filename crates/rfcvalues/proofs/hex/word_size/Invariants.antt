use Rattle.std.proofs.Common.{◌≡◌, ◌+◌, length}
use Rattle.rfcvalues.specs.HexWords.{word_bytes}
use Rattle.rfcvalues.proofs.hex.word_size.Given as goal

abbrev pub invariant-loop-first : goal.invariant-loop-first
invariant-loop-first l = record {
  size : l.size + length l.rest ≡ length l.text;
  same : l.size + word_bytes l.rest ≡ word_bytes l.text;
}

abbrev pub decreases-loop-first : goal.decreases-loop-first
decreases-loop-first l = length l.rest
