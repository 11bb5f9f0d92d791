-- The bits of the words before have been counted.
use Rattle.std.proofs.Common.{◌≡◌, ◌*◌, ◌≤◌, take}
use Rattle.std.specs.Prelude.{count_ones}
use Rattle.std.specs.List.{sum_by}
use Rattle.earley.proofs.words.count_bits.Given as goal

abbrev pub invariant-loop-word : goal.invariant-loop-word
invariant-loop-word l = record {
  count : l.count ≡ sum_by count_ones (take l.word-index l.words);
  bound : l.count ≤ 64 * l.word-index;
}
