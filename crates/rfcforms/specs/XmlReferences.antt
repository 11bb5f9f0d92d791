-- References to characters (XML 1.0, sections 4.1 and 4.6). Those of %x20-7E are read.
use Prim.Native.Char.{code}
use Rattle.std.specs.Prelude.{ℕ, ◌+◌, ◌-◌, ◌*◌, ◌==◌, ◌||◌, nat_lt, not, Bool, List, [], ◌∷◌, drop, codes}
use Rattle.std.specs.Prelude.{if◌then◌else◌}
use Rattle.std.specs.Char.{is_ascii_digit, is_ascii_hexdigit}
use Rattle.rfcforms.specs.XmlTags.{text_leads}

abbrev pub is_digit_of : ℕ → ℕ → Bool
is_digit_of base b = if base == 16 then is_ascii_hexdigit b else is_ascii_digit b

abbrev pub digit_value : ℕ → ℕ
digit_value b = if is_ascii_digit b then b - code "0" else if nat_lt b (code "a") then b - 55 else b - 87

-- the number that the digits before `;` spell after that one; 0 if other bytes stand there, or if it passes %x7E before
-- its last digit
abbrev pub number_from : ℕ → ℕ → List ℕ → ℕ
number_from base value [] = 0
number_from base value (b ∷ bytes) = if b == code ";" then value
    else if nat_lt 126 value || not (is_digit_of base b) then 0
    else number_from base (value * base + digit_value b) bytes

-- the number of the reference that begins the text; 0 if none does
abbrev pub referred_number : List ℕ → ℕ
referred_number text = if text_leads (codes "&#x") text then number_from 16 0 (drop 3 text)
    else if text_leads (codes "&#") text then number_from 10 0 (drop 2 text) else 0

abbrev pub printed_byte : ℕ → ℕ
printed_byte n = if nat_lt n 32 || nat_lt 126 n then 0 else n

-- the byte of the reference that begins the text; 0 if none does
abbrev pub referred_byte : List ℕ → ℕ
referred_byte text = if text_leads (codes "&lt;") text then code "<"
    else if text_leads (codes "&gt;") text then code ">"
    else if text_leads (codes "&amp;") text then code "&"
    else if text_leads (codes "&quot;") text then code "\""
    else if text_leads (codes "&apos;") text then code "'"
    else printed_byte (referred_number text)
