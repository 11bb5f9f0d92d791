-- What an action prints: its template, with the capture put in (peg(1), 'yytext'; where the manual is vague the rules
-- are this project's own).
use Prim.Native.Char.{code}
use Rattle.std.specs.Prelude.{ℕ, Bool, ◌||◌, ◌&&◌, List, [], ◌∷◌, ◌++◌, reverse, length}
use Rattle.std.specs.Prelude.{if◌then◌else◌, nat_le, ◌==◌, codes}
use Rattle.std.specs.List.{flat_map}
use Rattle.std.specs.Str.{bytes_eq}
use Rattle.std.specs.Fmt.{decimal}

abbrev pub between : ℕ → ℕ → ℕ → Bool
between low high b = nat_le low b && nat_le b high

-- a letter, a digit or an underscore
abbrev pub is_word : ℕ → Bool
is_word b = between (code "a") (code "z") b || between (code "A") (code "Z") b || between (code "0") (code "9") b
    || (b == code "_")

-- A piece of a template: a maximal run of word bytes, or one other byte.
pub data Piece : Type 0 where
  Word : List ℕ → Piece
  Other : ℕ → Piece

-- a word byte joins the run right after it, or begins one
abbrev pub onto_run : ℕ → List Piece → List Piece
onto_run b (Word run ∷ pieces) = Word (b ∷ run) ∷ pieces
onto_run b (Other c ∷ pieces) = Word (b ∷ []) ∷ (Other c ∷ pieces)
onto_run b [] = Word (b ∷ []) ∷ []

-- The pieces of a template. Word bytes that stand side by side are one run, so no two runs stand side by side.
abbrev pub pieces_of : List ℕ → List Piece
pieces_of [] = []
pieces_of (b ∷ bytes) = if is_word b then onto_run b (pieces_of bytes) else (Other b ∷ pieces_of bytes)

-- a piece with the capture put in: `yytext` becomes the capture, `yyleng` its length in decimal, and all else stands
abbrev pub filled_piece : List ℕ → Piece → List ℕ
filled_piece capture (Word run) =
    if bytes_eq run (codes "yytext") then capture
    else (if bytes_eq run (codes "yyleng") then decimal (length capture) else run)
filled_piece capture (Other b) = b ∷ []

-- the template with the capture put in; what is put in is not looked at again
abbrev pub filled : List ℕ → List ℕ → List ℕ
filled template capture = flat_map (filled_piece capture) (pieces_of template)

-- a space, a tab, CR or LF
abbrev pub is_blank : ℕ → Bool
is_blank b = (b == code " ") || (b == code "\t") || (b == code "\r") || (b == code "\n")

abbrev pub cut_front : List ℕ → List ℕ
cut_front [] = []
cut_front (b ∷ text) = if is_blank b then cut_front text else b ∷ text

-- a text without the blanks at both its ends
abbrev pub trimmed : List ℕ → List ℕ
trimmed text = reverse (cut_front (reverse (cut_front text)))

-- what an action prints: its template as it is, or without the blanks at its ends and on a line of its own
abbrev pub printed : Bool → List ℕ → List ℕ → List ℕ
printed raw template capture =
    if raw then filled template capture else filled (trimmed template) capture ++ codes "\n"
