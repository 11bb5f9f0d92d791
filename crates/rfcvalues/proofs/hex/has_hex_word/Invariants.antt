use Rattle.std.proofs.Common.{◌≡◌, length}
use Rattle.rfcvalues.specs.HexWords.{has_hex_word, word_bytes}
use Rattle.rfcvalues.proofs.hex.has_hex_word.Given as goal

abbrev pub invariant-loop-size : goal.invariant-loop-size
invariant-loop-size l = record {
  first : l.size ≡ word_bytes l.rest;
  same : has_hex_word l.rest ≡ has_hex_word l.text;
}

abbrev pub decreases-loop-size : goal.decreases-loop-size
decreases-loop-size l = length l.rest
