-- Runs of digits that are numbers over the limit.
use Prim.Native.Char.{code}
use Rattle.std.specs.Prelude.{ℕ, ◌+◌, ◌*◌, ◌==◌, ◌||◌, nat_lt, Bool, false, List, [], ◌∷◌, if◌then◌else◌}
use Rattle.std.specs.Char.{digit_value}
use Rattle.abnfread.specs.BaseDigits.{is_digit}
use Rattle.abnfread.specs.Numerals.{max_number}

-- whether a run of digits is over, where the digits before say n
abbrev pub runs_over : ℕ → ℕ → List ℕ → Bool
runs_over base n [] = false
runs_over base n (b ∷ bs) = if is_digit base b
    then (nat_lt max_number (n * base + digit_value b) || runs_over base (n * base + digit_value b) bs)
    else runs_over base 0 bs

-- the base that the letter gives
abbrev pub base_reported : ℕ → ℕ
base_reported c = if (c == code "b") || (c == code "B") then 2 else if (c == code "d")
    || (c == code "D") then 10 else 16

-- after `%` and that letter
abbrev pub over_after : List ℕ → Bool
over_after [] = false
over_after (p ∷ []) = false
over_after (p ∷ c ∷ t) = if p == code "%" then runs_over (base_reported c) 0 t else false
