-- Sets of numbers as bits of words.
use Rattle.std.specs.Prelude.{ℕ, ◌-◌, ◌*◌, ◌/◌, ◌%◌, ◌==◌, nat_le, Bool, List, length, slice_index_or, cond}
use Rattle.std.specs.Int.{bit_at}
use Rattle.std.specs.List.{filter, range_with_len}

-- word i of a window of words that begins with word `first`; all others are 0
abbrev pub word_in : ℕ → List ℕ → ℕ → ℕ
word_in first words i = cond (nat_le first i) (slice_index_or words (i - first) 0) 0

-- bit k % 64 of word k / 64 is set
abbrev pub has_bit : ℕ → List ℕ → ℕ → Bool
has_bit first words k = bit_at (word_in first words (k / 64)) (k % 64) == 1

-- the numbers whose bits are set, in ascending order
unfoldable pub members : ℕ → List ℕ → List ℕ
members first words = filter (has_bit first words) (range_with_len (first * 64) (length words * 64))
