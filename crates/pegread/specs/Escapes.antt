-- How the canonical text writes the bytes of a literal and the members of a class.
use Prim.Native.Char.{code}
use Rattle.std.specs.Prelude.{ℕ, ◌+◌, ◌/◌, ◌%◌, ◌==◌, ◌||◌, nat_lt, Bool, cond, Option, Some, None, List, [], ◌∷◌, ◌++◌}
use Rattle.std.specs.List.{flat_map}
use Rattle.ruletable.specs.Runs.{runs_of}
use Rattle.pegread.specs.Classes.{complement}

-- the letter that stands for a control byte after a backslash
abbrev pub letter_for : ℕ → Option ℕ
letter_for b = cond (b == 7) (Some (code "a")) (cond (b == 8) (Some (code "b"))
    (cond (b == 27) (Some (code "e")) (cond (b == 12) (Some (code "f"))
    (cond (b == code "\n") (Some (code "n")) (cond (b == code "\r") (Some (code "r"))
    (cond (b == code "\t") (Some (code "t")) (cond (b == 11) (Some (code "v")) None)))))))

abbrev pub with_letter : Option ℕ → List ℕ → List ℕ
with_letter (Some l) s = code "\\" ∷ l ∷ []
with_letter None s = s

-- a backslash and three octal digits
abbrev pub octal_of : ℕ → List ℕ
octal_of b = code "\\" ∷ (code "0" + b / 8 / 8) ∷ (code "0" + b / 8 % 8) ∷ (code "0" + b % 8) ∷ []

-- outside the printable ASCII
abbrev pub is_unprintable : ℕ → Bool
is_unprintable b = nat_lt b 32 || nat_lt 126 b

-- a backslash and the letter of a control byte; else a backslash and octal digits, or a backslash and the byte, where
-- so it is to be; else the byte itself
unfoldable pub written : ℕ → Bool → Bool → List ℕ
written b as_octal marked = with_letter (letter_for b)
    (cond as_octal (octal_of b) (cond marked (code "\\" ∷ b ∷ []) (b ∷ [])))

-- a byte of a literal
abbrev pub escaped : ℕ → List ℕ
escaped b = written b (is_unprintable b) ((b == code "\"") || (b == code "\\"))

-- a member of a class, in which `-` and `^` have a meaning of their own
abbrev pub shown : ℕ → List ℕ
shown b = written b (is_unprintable b || (b == code "-") || (b == code "^"))
    ((b == code "[") || (b == code "\\") || (b == code "]"))

-- one byte as itself, two as both, more as the first, `-` and the last
abbrev pub run_text : ℕ × ℕ → List ℕ
run_text run = cond (run.0 == run.1) (shown run.0)
    (cond (run.0 + 1 == run.1) (shown run.0 ++ shown run.1) (shown run.0 ++ (code "-" ∷ shown run.1)))

abbrev pub runs_text : (ℕ → Bool) → List ℕ
runs_text f = flat_map run_text (runs_of f)

-- the runs of the members, or after `^` those of the bytes that are none, if byte 255 is a member
abbrev pub class_text : (ℕ → Bool) → List ℕ
class_text f = cond (f 255) (code "[" ∷ code "^" ∷ (runs_text (complement f) ++ code "]" ∷ []))
    (code "[" ∷ (runs_text f ++ code "]" ∷ []))
