-- Parts of the lines of messages.
use Prim.Native.Char.{code}
use Rattle.std.specs.Prelude.{ℕ, ◌+◌, ◌*◌, ◌-◌, ◌==◌, min, Bool, List, [], ◌∷◌}
use Rattle.std.specs.Prelude.{Option, Some, None}
use Rattle.std.specs.Prelude.{codes, if◌then◌else◌, drop, length, take}
use Rattle.std.specs.Char.{is_ascii_digit}
use Rattle.std.specs.Str.{bytes_eq}

-- the text begins so
abbrev pub begins_so : List ℕ → List ℕ → Bool
begins_so front text = bytes_eq (take (length front) text) front

-- the bytes of a text that begins so
abbrev pub after_front : List ℕ → List ℕ → Option (List ℕ)
after_front front text = if begins_so front text then Some (drop (length front) text) else None

-- the number whose digits go on so, where they have given that much; no more than 99,999,999
abbrev pub number_continued : ℕ → List ℕ → ℕ
number_continued n [] = n
number_continued n (b ∷ bytes) =
    if is_ascii_digit b then number_continued (min (n * 10 + (b - code "0")) 99999999) bytes else n

-- the bytes after the digits
abbrev pub after_number : List ℕ → List ℕ
after_number [] = []
after_number (b ∷ bytes) = if is_ascii_digit b then after_number bytes else b ∷ bytes

-- a number, and what is reported of it
pub record ReportAt : Type 0 where
  pub number : ℕ
  pub report : List ℕ

-- what is reported after the number and a colon
abbrev pub report_after_colon : ℕ → Option (List ℕ) → Option ReportAt
report_after_colon n None = None
report_after_colon n (Some report) = Some (record { number = n; report = report })

abbrev pub report_after_number : Option (List ℕ) → Option ReportAt
report_after_number None = None
report_after_number (Some bytes) =
    report_after_colon (number_continued 0 bytes) (after_front (codes ": ") (after_number bytes))

-- of a text that begins so: the number there, and what is reported of it after a colon
abbrev pub report_in : List ℕ → List ℕ → Option ReportAt
report_in front text = report_after_number (after_front front text)

-- how many bytes stand before the first quote
abbrev pub distance_to_quote : List ℕ → ℕ
distance_to_quote [] = 0
distance_to_quote (b ∷ bytes) = if b == code "'" then 0 else 1 + distance_to_quote bytes

-- the bytes between the first quote and the next one
abbrev pub quoted_in : List ℕ → List ℕ
quoted_in [] = []
quoted_in (b ∷ bytes) = if b == code "'" then take (distance_to_quote bytes) bytes else quoted_in bytes
