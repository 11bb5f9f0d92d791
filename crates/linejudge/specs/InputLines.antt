-- The lines of an input, the answers to them, and how a run of them ends. A byte ends a line: LF, or any other.
use Rattle.std.specs.Prelude.{◌≡◌, ◌≢◌, ℕ, suc, ◌+◌, ◌-◌, ◌<◌, ◌≤◌, ◌==◌, nat_lt, ⊤, min, Bool, true, false, not, ◌&&◌}
use Rattle.std.specs.Prelude.{List, [], ◌∷◌, ◌++◌, length, take, drop, codes, decimal, if◌then◌else◌}
use Rattle.std.specs.Prelude.{Option, Some, None}
use Rattle.std.specs.Borrow.{Bor}
use Rattle.std.specs.List.{All}
use Rattle.feed.specs.declared.held.Held.{Held}
use Rattle.feed.specs.declared.held.Held.TheVariants as held
use Rattle.toolrun.specs.Input.{Input}
use Rattle.toolrun.specs.declared.status.Status.{Status}
use Rattle.toolrun.specs.declared.status.Status.TheVariants.{Done, NoMatch}
use Rattle.toolrun.specs.declared.stop.Stop.{Stop}
use Rattle.toolrun.specs.declared.stop.Stop.TheVariants as stop
use Rattle.linejudge.specs.declared.answers.Answer.{Answer}
use Rattle.linejudge.specs.declared.answers.Answer.TheVariants.{Yes, No, NoAfter}
use Rattle.linejudge.specs.declared.answers.NoAnswer.{NoAnswer}
use Rattle.linejudge.specs.declared.answers.NoAnswer.TheVariants.{Memory, Costly}
use Rattle.linejudge.specs.declared.line.Line.{Line}
use Rattle.linejudge.specs.declared.line.LineForm.{LineForm}
use Rattle.linejudge.specs.declared.line.Line.TheVariants.{Whole, Last, Overlong, End, Broken}
use Rattle.linejudge.specs.declared.printed.Printed.{Printed}
use Rattle.linejudge.specs.declared.printed.Printed.TheVariants as printed
use Rattle.linejudge.specs.declared.reached.LinePosition.{LinePosition}

-- none of these bytes is the one that ends a line
abbrev pub HasNoEnd : ℕ → List ℕ → Type 0
HasNoEnd end bytes = All (λ b. b ≢ end) bytes

-- why a line has no answer: an allocation failed, or the line needs more items than this budget
abbrev pub IsNoAnswer : (ℕ → Type 0) → NoAnswer → Type 0
IsNoAnswer NeedsMore Memory = ⊤
IsNoAnswer NeedsMore (Costly budget) = NeedsMore budget

-- what is written for an answer
abbrev pub answer_text : Answer → List ℕ
answer_text Yes = codes "yes\n"
answer_text No = codes "no\n"
answer_text (NoAfter n) = codes "no " ++ decimal n ++ codes "\n"

-- whether an answer is yes
abbrev pub says_yes : Answer → Bool
says_yes Yes = true
says_yes No = false
says_yes (NoAfter n) = false

-- whether something is printed for a line with that answer
abbrev pub is_line_printed : Printed → Answer → Bool
is_line_printed printed.Answers said = true
is_line_printed printed.Derived said = says_yes said
is_line_printed printed.Refused said = not (says_yes said)
is_line_printed printed.Count said = false
is_line_printed printed.Nothing said = false

-- the name and a colon, if a name is given
abbrev pub name_text : Option (Bor (List ℕ)) → List ℕ
name_text (Some name) = name.now ++ codes ":"
name_text None = []

-- the number of a line and a colon, if lines are numbered
abbrev pub number_text : Bool → ℕ → List ℕ
number_text true number = decimal number ++ codes ":"
number_text false number = []

-- what stands before the output for the line of that number
abbrev pub head_text : LineForm → ℕ → List ℕ
head_text form number = name_text form.name ++ number_text form.numbered number

-- what is judged of a line that has an end: the line alone, or with its end
abbrev pub kept_line : LineForm → List ℕ → List ℕ
kept_line form line = if form.keeps then line ++ form.end ∷ [] else line

-- how many bytes that are
abbrev pub kept_size : LineForm → ℕ → ℕ
kept_size form n = if form.keeps then n + 1 else n

-- what was judged, and the end after it, if the end is no part of it
abbrev pub ended_line : LineForm → List ℕ → List ℕ
ended_line form line = if form.keeps then line else line ++ form.end ∷ []

-- what is printed after name and number: the answer, or the line and its end
abbrev pub shown_text : LineForm → Printed → List ℕ → Answer → List ℕ
shown_text form printed.Answers line said = answer_text said
shown_text form printed.Derived line said = ended_line form line
shown_text form printed.Refused line said = ended_line form line
shown_text form printed.Count line said = []
shown_text form printed.Nothing line said = []

-- what is printed for a line of that number with that answer, by what was judged of it
abbrev pub printed_line : LineForm → ℕ → List ℕ → Answer → List ℕ
printed_line form number line said = if is_line_printed form.printed said
    then head_text form number ++ shown_text form form.printed line said else []

-- how many lines an answer rejects
abbrev pub refused_by : Answer → ℕ
refused_by Yes = 0
refused_by No = 1
refused_by (NoAfter n) = 1

-- how a run ends after so many rejected lines
abbrev pub status_after : ℕ → Status
status_after refused = if refused == 0 then Done else NoMatch

-- before the first line
abbrev pub at_front : LinePosition
at_front = record { position = 0; count = 0; refused = 0 }

-- after a line that takes n bytes
abbrev pub next_position : LinePosition → ℕ → Answer → LinePosition
next_position at n said = record {
  position = at.position + n;
  count = at.count + 1;
  refused = at.refused + refused_by said;
}

-- whether a run is over there: it stops after a rejected line
abbrev pub is_over : LineForm → LinePosition → Bool
is_over form at = nat_lt 0 at.refused && form.stops

-- how many lines were derived, and how many rejected
abbrev pub count_text : LinePosition → List ℕ
count_text at = decimal (at.count - at.refused) ++ codes " derived, " ++ decimal at.refused ++ codes " refused\n"

-- what is printed at the end of the input, where a name may be given
abbrev pub printed_last : Option (Bor (List ℕ)) → Printed → LinePosition → List ℕ
printed_last name printed.Answers at = []
printed_last name printed.Derived at = []
printed_last name printed.Refused at = []
printed_last name printed.Count at = name_text name ++ count_text at
printed_last name printed.Nothing at = []

-- how many bytes are taken where the last line is looked for at s
abbrev pub taken_at : ℕ → Input → ℕ → ℕ
taken_at limit input s = min (length input.bytes) (s + limit + 1)

abbrev pub position_taken : ℕ → Input → LinePosition → ℕ
position_taken limit input at = taken_at limit input at.position

module _ (form : LineForm) (input : Input) where
  -- at s stand this line of at most so many bytes, and its end
  pub record IsLine (s : ℕ) (line : List ℕ) : Type 0 where
    pub after : List ℕ
    pub cut : drop s input.bytes ≡ line ++ form.end ∷ after
    pub one : HasNoEnd form.end line
    pub within : length line ≤ form.limit

  -- the input ends with a last line without an end, of at most so many bytes
  abbrev pub IsLastAt : ℕ → Type 0
  IsLastAt s = HasNoEnd form.end (drop s input.bytes) × (0 < length (drop s input.bytes))
      × (length (drop s input.bytes) ≤ form.limit) × (input.fault ≡ false)

  -- This is judged of the line at s, which takes so many bytes: with its end, or the last one.
  pub data StandsAt (s : ℕ) : List ℕ → ℕ → Type 0 where
    with_end : (line : List ℕ) → IsLine s line → StandsAt s (kept_line form line) (length line + 1)
    without_end : IsLastAt s → StandsAt s (drop s input.bytes) (length (drop s input.bytes))

  -- no line ends within so many bytes and one more
  abbrev pub IsOverlongAt : ℕ → Type 0
  IsOverlongAt s = HasNoEnd form.end (take (suc form.limit) (drop s input.bytes))
      × (form.limit < length (drop s input.bytes))

  -- the input ends there
  abbrev pub IsEndAt : ℕ → Type 0
  IsEndAt s = (drop s input.bytes ≡ []) × (input.fault ≡ false)

  -- the reader has a fault before a line ends
  abbrev pub IsBrokenAt : ℕ → Type 0
  IsBrokenAt s = HasNoEnd form.end (drop s input.bytes) × (length (drop s input.bytes) ≤ form.limit)
      × (input.fault ≡ true)

  -- What stands at s. After a fault of the reader a line stands there only with its end.
  abbrev pub IsNext : ℕ → Line → Type 0
  IsNext s (Whole k) = IsLine s (take k (drop s input.bytes)) × (length (take k (drop s input.bytes)) ≡ k)
  IsNext s (Last k) = IsLastAt s × (length (drop s input.bytes) ≡ k)
  IsNext s Overlong = IsOverlongAt s
  IsNext s End = IsEndAt s
  IsNext s Broken = IsBrokenAt s

-- what is found lies in so many bytes, and a last line has some
abbrev pub LiesWithin : ℕ → Line → Type 0
LiesWithin len (Whole k) = k < len
LiesWithin len (Last k) = (0 < k) × (k ≤ len)
LiesWithin len _ = ⊤

-- a line has fewer bytes than there is room for
abbrev pub IsShort : ℕ → Line → Type 0
IsShort room (Whole k) = k < room
IsShort room (Last k) = k < room
IsShort room _ = ⊤

-- How the bytes that are held grow where each line is answered at once: read by read, each of at most 4096 bytes, and
-- before each read no line's end is held. So nothing is read before all lines that are whole have been answered.
pub data ReadsForLine (end : ℕ) (first : List ℕ) : List ℕ → Type 0 where
  no_read : ReadsForLine end first first
  one_read : (held more : List ℕ) → ReadsForLine end first held → HasNoEnd end held → length more ≤ 4096
      → ReadsForLine end first (held ++ more)

-- what stands at the front where so many bytes and no line's end are held
abbrev pub line_without : Held → ℕ → Line
line_without held.Full len = Overlong
line_without held.End len = if len == 0 then End else Last len
line_without held.Fault len = Broken

-- the run goes on at a position, and this is judged of the line there, which takes so many bytes
pub record GoesBy (form : LineForm) (input : Input) (at : LinePosition) (line : List ℕ) (n : ℕ) : Type 0 where
  pub goes : is_over form at ≡ false
  pub stands : StandsAt form input at.position line n

-- Reported says which answer is that of a line.
module _ (Reported : List ℕ → Answer → Type 0) (form : LineForm) (input : Input) where
  -- the lines up to a position, and what is printed for them
  pub data Lines : LinePosition → List ℕ → Type 0 where
    none : Lines at_front []
    one_more : (at : LinePosition) (before line : List ℕ) (n : ℕ) (said : Answer) → Lines at before
        → GoesBy form input at line n → Reported line said
        → Lines (next_position at n said) (before ++ printed_line form (at.count + 1) line said)

-- how a run ends there, and what is printed then, where NeedsMore says which lines need more than so many items
pub data LinesEnd (NeedsMore : List ℕ → ℕ → Type 0) (form : LineForm) (input : Input) (at : LinePosition)
    : List ℕ → Stop → Type 0 where
  broken : is_over form at ≡ false → IsBrokenAt form input at.position
      → LinesEnd NeedsMore form input at [] stop.Broken
  overlong : is_over form at ≡ false → IsOverlongAt form input at.position
      → LinesEnd NeedsMore form input at [] (stop.LongLine (at.count + 1) form.limit)
  costly : (line : List ℕ) (n budget : ℕ) → GoesBy form input at line n → NeedsMore line budget
      → LinesEnd NeedsMore form input at [] (stop.CostlyLine (at.count + 1) budget)
  finished : is_over form at ≡ false → IsEndAt form input at.position
      → LinesEnd NeedsMore form input at (printed_last form.name form.printed at) (stop.Quiet (status_after at.refused))
  rejected : is_over form at ≡ true
      → LinesEnd NeedsMore form input at (printed_last form.name form.printed at) (stop.Quiet (status_after at.refused))
