-- Lines in quotes, all in ASCII.
use Prim.Native.Char.{code}
use Rattle.std.specs.Prelude.{ℕ, ◌/◌, ◌%◌, ◌==◌, ◌||◌, nat_lt, Bool, List, [], ◌∷◌, ◌++◌, codes, if◌then◌else◌}
use Rattle.std.specs.List.{flat_map}
use Rattle.diagnostics.specs.ShownBytes.{hex_digit}
use Rattle.ruletable.specs.declared.alphabet.Alphabet.{Alphabet}
use Rattle.rulelines.specs.LineBytes.{line_bytes}

-- the byte does not stand for itself: it is none from %x20 to %x7E, or a quote or backslash
abbrev pub is_special : ℕ → Bool
is_special b = nat_lt b 32 || (nat_lt 126 b || ((b == code "\"") || (b == code "\\")))

-- a byte that does not is `\x` and two digits
abbrev pub quoted_byte : ℕ → List ℕ
quoted_byte b = if is_special b then code "\\" ∷ code "x" ∷ hex_digit (b / 16) ∷ hex_digit (b % 16) ∷ [] else b ∷ []

abbrev pub quoted_bytes : List ℕ → List ℕ
quoted_bytes bytes = flat_map quoted_byte bytes

-- all of the line
abbrev pub quoted_line : Alphabet → List ℕ → List ℕ
quoted_line alphabet line = codes "\"" ++ (quoted_bytes (line_bytes alphabet line) ++ codes "\"")
