-- Forms of names that other notations give another meaning: `0x41` is a code point, and `[a-z]` a range.
use Prim.Native.Char.{code}
use Rattle.std.specs.Prelude.{ℕ, ◌+◌, ◌-◌, ◌==◌, ◌&&◌, ◌||◌, not, nat_lt, Bool, true, false, List, [], ◌∷◌, length}
use Rattle.std.specs.Prelude.{slice_get, Option, Some, None, if◌then◌else◌}
use Rattle.std.specs.Char.{is_ascii_alphanumeric, is_ascii_digit, is_ascii_hexdigit}
use Rattle.std.specs.List.{list_all}
use Rattle.diagnostics.specs.declared.noteplaces.forms.UseForm.{UseForm}
use Rattle.diagnostics.specs.declared.noteplaces.forms.UseForm.TheVariants.{Plain, CodePoint, Range}

-- the byte right before a position
abbrev pub byte_before : List ℕ → ℕ → Option ℕ
byte_before text at = if at == 0 then None else slice_get text (at - 1)

abbrev pub is_byte : ℕ → Option ℕ → Bool
is_byte byte None = false
is_byte byte (Some b) = b == byte

-- what may stand before the last digit of a repetition: a digit or `*`
abbrev pub ends_repetition : Option ℕ → Bool
ends_repetition None = false
ends_repetition (Some b) = is_ascii_digit b || (b == code "*")

-- `0` stands right before the position, and is the whole of a repetition
abbrev pub is_after_zero : List ℕ → ℕ → Bool
is_after_zero text at = is_byte (code "0") (byte_before text at) && not (ends_repetition (byte_before text (at - 1)))

-- `x` and hexadecimal digits
abbrev pub is_x_hex : List ℕ → Bool
is_x_hex [] = false
is_x_hex (x ∷ digits) = (x == code "x") && (nat_lt 0 (length digits) && list_all is_ascii_hexdigit digits)

-- pairs like `a-z`, of letters and digits
abbrev pub are_pairs : List ℕ → Bool
are_pairs [] = true
are_pairs (a ∷ []) = false
are_pairs (a ∷ d ∷ []) = false
are_pairs (a ∷ d ∷ b ∷ rest) =
    (d == code "-") && (is_ascii_alphanumeric a && (is_ascii_alphanumeric b && are_pairs rest))

-- `[` stands right before a name at the position, and `]` right after it
abbrev pub is_bracketed : List ℕ → ℕ → List ℕ → Bool
is_bracketed text at name = is_byte (code "[") (byte_before text at)
    && is_byte (code "]") (slice_get text (at + length name))

-- the form of a name that stands there
abbrev pub use_form : List ℕ → ℕ → List ℕ → UseForm
use_form text at name = if is_after_zero text at && is_x_hex name then CodePoint
    else if is_bracketed text at name && are_pairs name then Range else Plain
