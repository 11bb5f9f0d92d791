-- The usual mistakes in a grammar in ABNF: a table of what shows one, by the token that decides and the two before it.
use Prim.Native.Char.{code}
use denote.Enum.Bare.{sameb}
use Rattle.std.specs.Prelude.{ℕ, ◌-◌, ◌==◌, ◌&&◌, ◌||◌, not, Bool, true, false, if◌then◌else◌, List, [], ◌∷◌}
use Rattle.std.specs.Prelude.{drop, length, slice_index, Option, Some, None, codes}
use Rattle.std.specs.List.{list_any, starts_with}
use Rattle.std.specs.Option.{option_or}
use Rattle.lexer.specs.TokenLists.{tok}
use Rattle.abnfread.specs.contracts.kind.AbnfKind.{the_type}
use Rattle.abnfread.specs.declared.kind.AbnfKind.{AbnfKind}
use Rattle.abnfread.specs.declared.kind.AbnfKind.TheVariants.{Name, Is, Adds, Slash, LParen, RParen, LBrack, RBrack}
use Rattle.abnfread.specs.declared.kind.AbnfKind.TheVariants.{Repeat, Text, Num, Prose, Bad, End}
use Rattle.abnfread.specs.MarkedTokens.{Marked, marked}
use Rattle.diagnostics.specs.CodePoints.{in_utf16, point_rows, quote_rows}
use Rattle.diagnostics.specs.FirstBytes.{first_fact}
use Rattle.abnfexplain.specs.declared.abnf_mistakes.TokenMarks.{TokenMarks}
use Rattle.abnfexplain.specs.declared.abnf_mistakes.TokenMarks.TheVariants.{Any, Tight, Within, First}

-- one of these kinds: the same variant
abbrev pub has_kind : List AbnfKind → AbnfKind → Bool
has_kind kinds kind = list_any (λ k. sameb the_type k kind) kinds

-- these marks: no white space before it; that, and not the first of a line that begins a rule; such a first one
abbrev pub has_marks : TokenMarks → Bool → Bool → Bool
has_marks Any gap first = true
has_marks Tight gap first = not gap
has_marks Within gap first = not gap && not first
has_marks First gap first = first

-- A mistake: kinds and marks of the token that decides, its first bytes, the byte after these and blanks, or the end;
-- kinds of the token before it, and its last bytes or all; kinds of the token before that one; what is reported.
pub record Mistake : Type 0 where
  pub kinds : List AbnfKind
  pub marks : TokenMarks
  pub begins : List ℕ
  pub blanks : Bool
  pub next : List ℕ
  pub ends : Bool
  pub before : List AbnfKind
  pub word : List ℕ
  pub whole : Bool
  pub earlier : List AbnfKind
  pub reported : List ℕ

abbrev pub operands : List AbnfKind
operands = Name ∷ Text ∷ Num ∷ Prose ∷ RParen ∷ RBrack ∷ []

abbrev pub begin_elements : List AbnfKind
begin_elements = Name ∷ Text ∷ Num ∷ Prose ∷ LParen ∷ LBrack ∷ []

abbrev pub all_but_bad : List AbnfKind
all_but_bad = Name ∷ Is ∷ Adds ∷ Slash ∷ LParen ∷ RParen ∷ LBrack ∷ RBrack ∷ Repeat ∷ Text ∷ Num ∷ Prose ∷ End ∷ []

-- by kinds and marks, the first bytes, and the kinds before
abbrev pub mistake : List AbnfKind → TokenMarks → List ℕ → List AbnfKind → List ℕ → Mistake
mistake kinds marks begins before reported = record {
  kinds = kinds;
  marks = marks;
  begins = begins;
  blanks = false;
  next = [];
  ends = false;
  before = before;
  word = [];
  whole = false;
  earlier = [];
  reported = reported;
}

-- .. where one of those bytes follows the first ones
abbrev pub mistake_next : List AbnfKind → TokenMarks → List ℕ → List ℕ → List AbnfKind → List ℕ → Mistake
mistake_next kinds marks begins next before reported = record (mistake kinds marks begins before reported)
    { next = next }

-- .. where the token before ends so
abbrev pub mistake_after : TokenMarks → List ℕ → AbnfKind → List ℕ → Bool → List AbnfKind → List ℕ → Mistake
mistake_after marks begins before word whole kinds reported =
    record (mistake kinds marks begins (before ∷ []) reported) { word = word; whole = whole }

abbrev pub comment_reported : List ℕ
comment_reported = codes "comments begin with \";\""

abbrev pub repetition_reported : List ℕ
repetition_reported = codes "a repetition stands before its element: 2*3DIGIT"

abbrev pub range_reported : List ℕ
range_reported = codes "a range is written %x30-39"

abbrev pub number_reported : List ℕ
number_reported = codes "a number is %x, %d or %b and digits"

abbrev pub point_reported : List ℕ
point_reported = codes "a code point is written %x41"

abbrev pub digit_bytes : List ℕ
digit_bytes = codes "0123456789"

abbrev pub range_bytes : List ℕ
range_bytes = codes "%\"0123456789ABCDEFabcdef"

-- The mistakes, in the order in which they are looked for.
abbrev pub mistakes : List Mistake
mistakes =
    mistake (Bad ∷ []) Any (codes "\r") [] (codes "lines end with LF or CR LF, not CR")
    ∷ mistake_after Tight (codes "\"") Text (codes "\\\"") false []
    (codes "a double quote is DQUOTE: texts have no escapes")
    ∷ mistake (Slash ∷ []) Tight [] (Slash ∷ []) comment_reported ∷ mistake (Bad ∷ []) First
    (codes "#") [] comment_reported
    ∷ record (mistake_next (Bad ∷ []) Any (codes "#") (codes " \t\r\n#!") [] comment_reported) { ends = true }
    ∷ mistake (Name ∷ []) Tight [] (Num ∷ []) number_reported
    ∷ mistake_next (Repeat ∷ []) Tight [] digit_bytes (Num ∷ []) number_reported
    ∷ mistake all_but_bad Any [] (Repeat ∷ []) repetition_reported ∷ mistake
    (Repeat ∷ []) Tight [] operands repetition_reported
    ∷ mistake_next (Bad ∷ []) Any (codes "{") (code "," ∷ digit_bytes) [] repetition_reported
    ∷ mistake begin_elements Within [] operands (codes "elements have white space between them")
    ∷ mistake_after Tight (codes "+") Name (codes "U") true (Bad ∷ []) point_reported
    ∷ mistake_after Tight (codes "+") Name (codes "u") true (Bad ∷ []) point_reported
    ∷ record (mistake_next (Bad ∷ []) Any (codes "-") range_bytes (Num ∷ Text ∷ []) range_reported) {
      blanks = true;
    }
    ∷ mistake (Bad ∷ []) Any (codes "..") (Num ∷ Text ∷ []) range_reported
    ∷ record (mistake (Bad ∷ []) Any (codes "-") (Repeat ∷ Name ∷ []) range_reported) { earlier = LBrack ∷ [] }
    ∷ mistake (Bad ∷ []) Any (codes "-") operands (codes "ABNF has no exceptions") ∷ []

-- without the spaces and tabs before it
abbrev pub bytes_after_blanks : List ℕ → List ℕ
bytes_after_blanks [] = []
bytes_after_blanks (b ∷ bs) = if (b == code " ") || (b == code "\t") then bytes_after_blanks bs else b ∷ bs

abbrev pub has_byte : List ℕ → ℕ → Bool
has_byte text byte = list_any (λ b. b == byte) text

-- one of those bytes comes next, if there are any; or the text ends, if it may
abbrev pub comes_next : List ℕ → Bool → List ℕ → Bool
comes_next next ends text = (length next == 0)
    || (if length text == 0 then ends else has_byte next (slice_index text 0))

abbrev pub equals : ℕ → ℕ → Bool
equals a b = a == b

-- a token's bytes are those of the row
abbrev pub has_bytes : Mistake → List ℕ → Bool
has_bytes row z = starts_with equals z row.begins && comes_next row.next row.ends
    (if row.blanks then bytes_after_blanks (drop (length row.begins) z) else drop (length row.begins) z)

-- a token ends with that word, or is it
abbrev pub has_word : List ℕ → Bool → List ℕ → Bool
has_word word whole z = starts_with equals (drop (length z - length word) z) word
    && (not whole || (length z == length word))

-- the token before is that of the row
abbrev pub is_after : Mistake → Option Marked → Bool
is_after row None = length row.before == 0
is_after row (Some (marked (tok kind z p) gap first)) = (length row.before == 0)
    || (has_kind row.before kind && has_word row.word row.whole z)

-- the token before that one is
abbrev pub has_earlier : Mistake → Option Marked → Bool
has_earlier row None = length row.earlier == 0
has_earlier row (Some (marked (tok kind z p) gap first)) = (length row.earlier == 0) || has_kind row.earlier kind

-- the token that decides is, and the two before it
abbrev pub is_mistake : Mistake → Option Marked → Option Marked → Marked → Bool
is_mistake row earlier before (marked (tok kind z p) gap first) = ((length row.kinds == 0) || has_kind row.kinds kind)
    && (has_marks row.marks gap first && (has_bytes row z && (is_after row before && has_earlier row earlier)))

-- the first that applies
abbrev pub first_mistake : List Mistake → Option Marked → Option Marked → Marked → Option (List ℕ)
first_mistake [] earlier before m = None
first_mistake (row ∷ rows) earlier before m = if is_mistake row earlier before m then Some row.reported
    else first_mistake rows earlier before m

-- the text has a CR and no LF
abbrev pub ends_in_cr : List ℕ → Bool
ends_in_cr text = has_byte text (code "\r") && not (has_byte text (code "\n"))

-- what a text as a whole shows, at what begins no token and at the end
abbrev pub text_mistake : List ℕ → AbnfKind → Option (List ℕ)
text_mistake text Bad = if in_utf16 text then Some (codes "the text is UTF-16, not UTF-8") else None
text_mistake text End = if ends_in_cr text then Some (codes "lines end with LF or CR LF, not CR") else None
text_mistake text _ = None

-- a code point that is taken for a character of ABNF
abbrev pub point_mistake : AbnfKind → List ℕ → Option (List ℕ)
point_mistake Bad z = option_or (first_fact (quote_rows (codes "texts stand in \"")) z) (first_fact point_rows z)
point_mistake _ z = None

-- the mistake that the token that decides shows
abbrev pub shown_mistake : List ℕ → Option Marked → Option Marked → Marked → Option (List ℕ)
shown_mistake text earlier before (marked (tok kind z p) gap first) = option_or (text_mistake text kind)
    (option_or (first_mistake mistakes earlier before (marked (tok kind z p) gap first)) (point_mistake kind z))
