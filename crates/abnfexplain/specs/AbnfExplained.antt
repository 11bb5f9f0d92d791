-- What explains a fault of a grammar's text: the lines after its message.
use Rattle.std.specs.Prelude.{◌≡◌, ℕ, ◌<◌, ◌≤◌, ◌&&◌, Bool, true, false, length, slice_get, take, List, [], ◌∷◌, ◌++◌}
use Rattle.std.specs.Prelude.{Option, Some, None, codes, decimal, if◌then◌else◌}
use Rattle.std.specs.Option.{option_map_or}
use Rattle.lexer.specs.TokenLists.{tok, kind_of, start_of}
use Rattle.lexer.specs.GrammarLimits.{max_grammar}
use Rattle.diagnostics.specs.FirstBytes.{Row, row, fact_line, first_reported}
use Rattle.diagnostics.specs.LinesAround.{bytes_before}
use Rattle.diagnostics.specs.PhraseLists.{listed}
use Rattle.diagnostics.specs.Pictures.{position_reported}
use Rattle.diagnostics.specs.ReportedPhrases.{AreAllReported}
use Rattle.abnfread.specs.declared.kind.AbnfKind.TheVariants.{Name, Bad, End}
use Rattle.abnfread.specs.AbnfReading.{is_bracket}
use Rattle.abnfread.specs.AbnfSays.{IsHopeless, IsOver}
use Rattle.abnfread.specs.MarkedTokens.{Marked, marked, tok_of, AreMarked}
use Rattle.ruletable.specs.declared.fault.ReadFault.{ReadFault}
use Rattle.ruletable.specs.declared.fault.ReadFault.TheVariants.{Memory}
use Rattle.ruletable.specs.declared.lines.LineRule.TheVariants.{Lf}
use Rattle.abnfexplain.specs.AbnfDecisions.{earlier_marked, first_marked, last_marked}
use Rattle.abnfexplain.specs.AbnfExpected.{CanStand, phrases}
use Rattle.abnfexplain.specs.AbnfMistakes.{shown_mistake}
use Rattle.abnfexplain.specs.AbnfStands.{defines}

-- what stands before what is reported of a token: its position, but for the end
abbrev pub token_position : List ℕ → Marked → List ℕ
token_position text (marked (tok End z p) g f) = codes "  at the end of the text: "
token_position text (marked (tok _ z p) g f) = position_reported Lf text p.start

-- what the first bytes of what begins no token show
abbrev pub bad_rows : List Row
bad_rows =
    row (codes "|") (codes "alternatives have \"/\" between them")
    ∷ row (codes ":") (codes "a rule is defined by \"=\"")
    ∷ row (codes "_") (codes "names hold letters, digits and \"-\"")
    ∷ row (codes "#")
    (codes "\"#\" is no part of ABNF in RFC 5234; lists of RFC 9110, section 5.6.1, are to be written out")
    ∷ row (codes "'") (codes "texts stand in double quotes")
    ∷ row (codes "\"") (codes "the text has no closing quote, or holds a byte that is not %x20-7E")
    ∷ row (codes "<") (codes "the prose has no closing \">\", or holds a byte that is not %x20-7E")
    ∷ row (codes "%") (codes "a number is %x, %d or %b and digits")
    ∷ row (codes "{") (codes "repetitions are written *(e)")
    ∷ row (codes "+") (codes "repetitions are written 1*e")
    ∷ row (codes "?") (codes "options are written [e]") ∷ []

-- what the token itself shows
abbrev pub bad_fact : Marked → List ℕ
bad_fact (marked (tok Bad z p) g f) = first_reported bad_rows z
bad_fact (marked (tok _ z p) g f) = []

-- how many bytes stand before the token on its line: its indentation, where it is the first there
abbrev pub indent : List ℕ → Marked → ℕ
indent text m = bytes_before Lf (take (start_of (tok_of m)) text)

-- Of the first token of a line that begins a rule: how its line is indented, and the line of the text's first token,
-- if this is another one.
abbrev pub line_fact : List ℕ → Option Marked → Marked → List ℕ
line_fact text (Some o) (marked x g true) =
    codes "  its line begins a rule: it is indented by " ++ (decimal (indent text (marked x g true))
    ++ (codes ", the first by " ++ (decimal (indent text o) ++ codes "\n")))
line_fact text (Some o) (marked x g false) = []
line_fact text None m = []

-- a name that begins no rule
abbrev pub is_later_name : Marked → Bool
is_later_name (marked (tok Name z p) g false) = true
is_later_name _ = false

-- of `=` and `=/` after such a name: how far rules may be indented, by the text's first token
abbrev pub name_fact : List ℕ → Option Marked → Option Marked → Marked → List ℕ
name_fact text (Some o) (Some b) m = if is_later_name b && defines (kind_of (tok_of m))
    then codes "  the name before it does not begin a rule: rules are indented by at most " ++ (decimal (indent text o)
    ++ codes "\n")
    else []
name_fact text (Some o) None m = []
name_fact text None b m = []

-- what is reported of a token that shows no usual mistake, by the text's first token and the one before it
abbrev pub other_facts : List ℕ → Option Marked → Option Marked → Marked → List ℕ
other_facts text o b m = bad_fact m ++ (line_fact text o m ++ name_fact text o b m)

-- what is reported of a token after those that can stand there: the line of a mistake, by the two tokens before it, or
-- else other facts
abbrev pub token_facts : List ℕ → Option Marked → Option Marked → Option Marked → Marked → List ℕ
token_facts text o e b m = option_map_or fact_line (shown_mistake text e b m) (other_facts text o b m)

-- The lines that explain why the text is no grammar.
pub data Why (text : List ℕ) : List ℕ → Type 0 where
  too_long : max_grammar < length text → Why text (codes "  a grammar has at most 1048576 bytes\n")
  -- with that token the tokens begin no grammar: what could stand in its place
  hopeless : {all : List Marked} {i : ℕ} {m : Marked} {reported : List (List ℕ)} → length text ≤ max_grammar
      → AreMarked text all → slice_get all i ≡ Some m → IsHopeless all i
      → AreAllReported (CanStand all i) phrases reported →
      Why text (token_position text m ++ (codes "expected " ++ (listed reported ++ (codes "\n"
      ++ token_facts text (first_marked (take i all)) (earlier_marked (take i all)) (last_marked (take i all)) m))))
  -- that bracket is one too many of those open at once
  too_deep : {all : List Marked} {i : ℕ} {m : Marked} → length text ≤ max_grammar → AreMarked text all
      → slice_get all i ≡ Some m → IsOver all i → is_bracket m ≡ true →
      Why text (token_position text m ++ codes "200 brackets are open before it\n")
  -- that number is over its limit
  too_large : {all : List Marked} {i : ℕ} {m : Marked} → length text ≤ max_grammar → AreMarked text all
      → slice_get all i ≡ Some m → IsOver all i → is_bracket m ≡ false →
      Why text (token_position text m ++ codes "above 4294967295\n")

-- the lines after the message of a fault: none after that of a failed allocation
abbrev pub Explains : List ℕ → ReadFault → List ℕ → Type 0
Explains text Memory why = why ≡ []
Explains text _ why = Why text why
