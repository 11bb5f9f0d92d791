-- The words before i are copied.
use Rattle.std.proofs.Common.{◌≡◌, ℕ, ◌+◌, ◌<◌, length, slice_index_or}
use Rattle.earley.specs.RowMembers.{word_in}
use Rattle.earley.proofs.words.widened.Given as goal

abbrev pub invariant-loop-i : goal.invariant-loop-i
invariant-loop-i l = record {
  count : l.low + length l.wide.items ≡ l.i;
  same : (n : ℕ) → n < length l.wide.items → slice_index_or l.wide.items n 0 ≡ word_in l.first l.words (l.low + n);
}
