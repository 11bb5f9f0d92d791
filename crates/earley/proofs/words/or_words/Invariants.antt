-- The words before i are done.
use Rattle.std.proofs.Common.{◌≡◌, ℕ, ◌+◌, ◌<◌, ◌≤◌, ◌⊎◌, slice_index_or, bit_or}
use Rattle.earley.proofs.words.or_words.Given as goal

abbrev pub invariant-loop-i : goal.invariant-loop-i
invariant-loop-i l = record {
  done : (n : ℕ) → n < l.i → slice_index_or l.words (l.at + n) 0
      ≡ bit_or (slice_index_or l.fn.words (l.at + n) 0) (slice_index_or l.more n 0);
  rest : (n : ℕ) → (n < l.at) ⊎ (l.at + l.i ≤ n) → slice_index_or l.words n 0 ≡ slice_index_or l.fn.words n 0;
}
