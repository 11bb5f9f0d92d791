-- The escapes of templates: of C's (ISO/IEC 9899, 6.4.4.4) the line feed, the tab, the carriage return and the
-- backslash, and two hexadecimal digits. Any other backslash stands for itself.
use Prim.Native.Char.{code}
use Rattle.std.specs.Prelude.{ℕ, zero, suc, ◌+◌, ◌*◌, ◌-◌, ◌==◌, Bool, List, [], ◌∷◌, ◌++◌, Option, Some, None}
use Rattle.std.specs.Prelude.{codes, if◌then◌else◌, unwrap_or}
use Rattle.std.specs.List.{flat_map}
use Rattle.pegnodes.specs.Templates.{between, is_word, Piece, Other, onto_run, filled_piece, trimmed, printed}
use Rattle.pegmatch.specs.declared.style.PrintStyle.{PrintStyle}

-- the value of a hexadecimal digit, of either case
abbrev pub hex_value : ℕ → Option ℕ
hex_value b = if between (code "0") (code "9") b then Some (b - code "0")
    else (if between (code "A") (code "F") b then Some (b - code "A" + 10)
    else (if between (code "a") (code "f") b then Some (b - code "a" + 10) else None))

-- The byte of an escape, and how many bytes it has after its backslash: of one letter, or the backslash
abbrev pub letter_escape : ℕ → Option (ℕ × ℕ)
letter_escape b = if b == code "n" then Some (code "\n", 1)
    else (if b == code "t" then Some (code "\t", 1)
    else (if b == code "r" then Some (code "\r", 1)
    else (if b == code "\\" then Some (code "\\", 1) else None)))

-- of `x` and two digits
abbrev pub digits_escape : Option ℕ → Option ℕ → Option (ℕ × ℕ)
digits_escape None n = None
digits_escape (Some m) None = None
digits_escape (Some m) (Some n) = Some (m * 16 + n, 3)

-- of `x` and the two bytes after it
abbrev pub hex_escape : List ℕ → Option (ℕ × ℕ)
hex_escape [] = None
hex_escape (x ∷ []) = None
hex_escape (x ∷ (y ∷ text)) = digits_escape (hex_value x) (hex_value y)

-- of a backslash before a text; none if it begins no escape
abbrev pub escape : List ℕ → Option (ℕ × ℕ)
escape [] = None
escape (b ∷ text) = if b == code "x" then hex_escape text else letter_escape b

-- what a byte before a text begins: the byte of an escape, with how many bytes that has after its backslash, or itself
abbrev pub byte_or_escape : ℕ → List ℕ → ℕ × ℕ
byte_or_escape b text = if b == code "\\" then unwrap_or (escape text) (b, 0) else (b, 0)

-- a word byte joins the run right after it, or begins one; any other byte, or that of an escape, is a piece
abbrev pub onto_pieces : ℕ → ℕ → List Piece → List Piece
onto_pieces b byte pieces = if is_word b then onto_run b pieces else (Other byte ∷ pieces)

-- the pieces of a template with escapes after so many of its bytes, which belong to an escape
abbrev pub pieces_after : ℕ → List ℕ → List Piece
pieces_after k [] = []
pieces_after (suc k) (b ∷ text) = pieces_after k text
pieces_after zero (b ∷ text) =
    onto_pieces b (byte_or_escape b text).0 (pieces_after (byte_or_escape b text).1 text)

-- The pieces of a template with escapes. An escape is a piece of its own, so no run goes on over it.
abbrev pub escaped_pieces : List ℕ → List Piece
escaped_pieces text = pieces_after 0 text

-- the template with its escapes replaced and the capture put in
abbrev pub filled_escaped : List ℕ → List ℕ → List ℕ
filled_escaped template capture = flat_map (filled_piece capture) (escaped_pieces template)

-- what an action prints whose template has escapes: blanks at its ends are cut before escapes are replaced
abbrev pub printed_escaped : Bool → List ℕ → List ℕ → List ℕ
printed_escaped raw template capture =
    if raw then filled_escaped template capture else filled_escaped (trimmed template) capture ++ codes "\n"

-- what an action prints in a style
abbrev pub printed_by : PrintStyle → List ℕ → List ℕ → List ℕ
printed_by style template capture =
    if style.escapes then printed_escaped style.raw template capture else printed style.raw template capture
