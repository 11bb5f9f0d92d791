-- The members of a set of bytes that is held in words of 64 bits.
use Rattle.std.specs.Prelude.{ℕ, ◌/◌, ◌%◌, ◌==◌, Bool, List, get_or, map}
use Rattle.std.specs.Int.{bit_at}
use Rattle.std.specs.List.{range_with_len}

-- whether bit b is set, counted from the lowest bit of the first word
abbrev pub is_member : List ℕ → ℕ → Bool
is_member words b = bit_at (get_or words (b / 64) 0) (b % 64) == 1

-- for each byte, whether it is a member
unfoldable pub members_of : List ℕ → List Bool
members_of words = map (is_member words) (range_with_len 0 256)
