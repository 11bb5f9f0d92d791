-- Bytes as any terminal shows them: printable ASCII stands for itself.
use Prim.Native.Char.{code}
use Rattle.std.specs.Prelude.{ℕ, ◌+◌, ◌-◌, ◌/◌, ◌%◌, ◌==◌, ◌||◌, nat_lt, Bool, List, [], ◌∷◌, ◌++◌, length, take, codes}
use Rattle.std.specs.Prelude.{if◌then◌else◌}
use Rattle.std.specs.List.{flat_map}

-- the digit of a number below 16
abbrev pub hex_digit : ℕ → ℕ
hex_digit d = if nat_lt d 10 then code "0" + d else code "A" + (d - 10)

-- a tab is a space, and a byte outside of the printable ASCII is `\x` and two digits
abbrev pub shown_byte : ℕ → List ℕ
shown_byte b = if b == code "\t" then codes " " else if nat_lt b 32 || nat_lt 126 b then code "\\" ∷ code "x" ∷
    hex_digit (b / 16) ∷ hex_digit (b % 16) ∷ [] else b ∷ []

-- the bytes, one after another
abbrev pub shown : List ℕ → List ℕ
shown bytes = flat_map shown_byte bytes

-- dots, where bytes are left out
abbrev pub dots : Bool → List ℕ
dots are_left_out = if are_left_out then codes ".." else []

-- the first 60 of them, and dots where there are more
abbrev pub cut : List ℕ → List ℕ
cut bytes = shown (take 60 bytes) ++ dots (nat_lt 60 (length bytes))
