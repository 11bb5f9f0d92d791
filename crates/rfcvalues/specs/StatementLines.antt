-- Lines that end as a statement of a program does: `x = a[i];`.
use Prim.Native.Char.{code}
use Rattle.std.specs.Prelude.{ℕ, suc, ◌-◌, ◌==◌, ◌||◌, ◌&&◌, nat_lt, not, Bool, true, false, List, [], ◌∷◌, length}
use Rattle.std.specs.Prelude.{drop}
use Rattle.std.specs.Prelude.{◌+◌, slice_index, if◌then◌else◌}
use Rattle.std.specs.List.{list_all}
use Rattle.abnfread.specs.AbnfSlices.{is_quotable, is_prose}
use Rattle.rfcvalues.specs.declared.line.LineRest.{LineRest}

-- a space or a tab
abbrev pub is_gap : ℕ → Bool
is_gap b = (b == code " ") || (b == code "\t")

-- the byte that ends it follows bytes that may stand inside
abbrev pub closes : (ℕ → Bool) → ℕ → List ℕ → Bool
closes inside end [] = false
closes inside end (b ∷ bs) = (b == end) || (inside b && closes inside end bs)

-- a position in a line: in a text that a quote closes, in prose that `>` closes (RFC 5234, section 4), or in neither
pub data Within : Type 0 where
  Outside : Within
  InText : Within
  InProse : Within

-- the position after a byte, where these follow
abbrev pub within_after : Within → ℕ → List ℕ → Within
within_after Outside b bs = if (b == code "\"") && closes is_quotable (code "\"") bs then InText
    else if (b == code "<") && closes is_prose (code ">") bs then InProse else Outside
within_after InText b bs = if b == code "\"" then Outside else InText
within_after InProse b bs = if b == code ">" then Outside else InProse

-- a `;` that stands in no text and in no prose
abbrev pub is_semicolon_in : Within → ℕ → Bool
is_semicolon_in Outside b = b == code ";"
is_semicolon_in InText b = false
is_semicolon_in InProse b = false

-- how many bytes the line has from the first of them on; 0 if it has none
abbrev pub semicolon_size : Within → List ℕ → ℕ
semicolon_size w [] = 0
semicolon_size w (b ∷ bs) =
    if is_semicolon_in w b then suc (length bs) else semicolon_size (within_after w b bs) bs

-- only blanks stand after so many bytes of the line less one, and none before them
abbrev pub ends_by : List ℕ → ℕ → Bool
ends_by line size = nat_lt 0 size && nat_lt size (length line) && list_all is_gap (drop (length line - size + 1) line)
    && not (is_gap (slice_index line (length line - size - 1)))

-- The first `;` that stands in no text and in no prose is the last byte but blanks, and no blank stands before it.
abbrev pub ends_statement : List ℕ → Bool
ends_statement line = ends_by line (semicolon_size Outside line)

-- what is known of the end of a line. It serves private helpers alone.
abbrev pub line_rest : List ℕ → LineRest
line_rest bs = record {
  closes_text = closes is_quotable (code "\"") bs;
  closes_prose = closes is_prose (code ">") bs;
  outside = semicolon_size Outside bs;
  in_text = semicolon_size InText bs;
  in_prose = semicolon_size InProse bs;
}
