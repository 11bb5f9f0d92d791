-- The words before i have the bits that both have.
use Rattle.std.proofs.Common.{◌≡◌, ℕ, ◌+◌, ◌<◌, ◌≤◌, ◌^◌, length, slice_index_or, bit_and}
use Rattle.earley.specs.RowMembers.{word_in}
use Rattle.earley.proofs.row.BitRow.common.Given as goal

abbrev pub invariant-loop-i : goal.invariant-loop-i
invariant-loop-i l = record {
  count : l.low + length l.words.items ≡ l.i;
  short : l.i ≤ 2 ^ 57;
  same : (n : ℕ) → n < length l.words.items → slice_index_or l.words.items n 0
      ≡ bit_and (word_in l.self-inside.first l.self-inside.words.items (l.low + n))
      (word_in l.other-inside.first l.other-inside.words.items (l.low + n));
}
