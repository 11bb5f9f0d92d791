-- What the lines that reach goals are for, and which goals no line reaches.
use Rattle.std.specs.Prelude.{◌≡◌, ℕ, ◌+◌, ◌==◌, Bool, if◌then◌else◌, List, [], ◌∷◌, ◌++◌, codes, decimal, length, take}
use Rattle.std.specs.Prelude.{Option, None, Some}
use Rattle.std.specs.List.{flat_map}
use Rattle.abnfprint.specs.CanonicalAbnf.{text_of}
use Rattle.abnfread.specs.AbnfViews.{element_of}
use Rattle.abnfread.specs.Element.{Alt, Element, Rule}
use Rattle.coverlines.specs.CoverLines.{IsCover, line_items}
use Rattle.coverlines.specs.Goals.{member_at}
use Rattle.coverlines.specs.MissedGoals.{AreMissed}
use Rattle.coverlines.specs.declared.bounds.LineBounds.{LineBounds}
use Rattle.coverlines.specs.declared.way.CoverGoal.{CoverGoal}
use Rattle.coverlines.specs.declared.cover.CoverLine.{CoverLine}
use Rattle.coverlines.specs.declared.way.GoalWay.{GoalWay}
use Rattle.coverlines.specs.declared.way.GoalWay.TheVariants.{Chosen, Taken, LeftOut, Rounds, First, Last, OtherCase}
use Rattle.refusedlines.specs.RefusedText.{unit_word}
use Rattle.refusedlines.specs.RuleNames.{name_at}
use Rattle.refusedlines.specs.declared.refusal.LineUnit.{LineUnit}

-- an element, or another one in its place
abbrev pub element_or : Option Element → Element → Element
element_or None e = e
element_or (Some d) e = d

-- the alternative of that number; the element itself if it has none
abbrev pub alternative_of : Element → ℕ → Element
alternative_of (Alt es) i = element_or (member_at es i) (Alt es)
alternative_of e i = e

-- the element that a goal names: the alternative that is taken, or else the element itself
abbrev pub subject_of : Element → GoalWay → Element
subject_of e (Chosen i) = alternative_of e i
subject_of e way = e

-- how many rounds a repetition takes
abbrev pub rounds_text : GoalWay → List ℕ
rounds_text (Rounds k) = decimal k
rounds_text way = []

-- the words before the element
abbrev pub opening_words : GoalWay → List ℕ
opening_words (Chosen i) = codes "alternative "
opening_words (Rounds k) = codes " turns of "
opening_words First = codes "first of "
opening_words Last = codes "last of "
opening_words OtherCase = codes "other case of "
opening_words way = []

-- the words after it
abbrev pub closing_words : GoalWay → List ℕ
closing_words Taken = codes " taken"
closing_words LeftOut = codes " left out"
closing_words way = []

-- a goal: what an element, in its canonical form, does in a rule
abbrev pub goal_text : List Rule → CoverGoal → List ℕ
goal_text rules goal = rounds_text goal.way ++ (opening_words goal.way
    ++ (text_of (subject_of (element_of goal.elem.now) goal.way)
    ++ (closing_words goal.way ++ (codes " in " ++ name_at rules goal.rule))))

-- the goal for which a line of that number was made
abbrev pub reached_line : LineUnit → List Rule → ℕ → CoverGoal → List ℕ
reached_line unit rules number goal =
    unit_word unit ++ (decimal number ++ (codes ": " ++ (goal_text rules goal ++ codes "\n")))

-- .. of each line, in order. The first one has that number.
abbrev pub reached_lines : LineUnit → List Rule → ℕ → List CoverLine → List ℕ
reached_lines unit rules number [] = []
reached_lines unit rules number (line ∷ lines) =
    reached_line unit rules number line.goal ++ reached_lines unit rules (number + 1) lines

-- a goal that no line reaches
abbrev pub missed_line : List Rule → CoverGoal → List ℕ
missed_line rules goal = codes "in no line: " ++ (goal_text rules goal ++ codes "\n")

abbrev pub missed_lines : List Rule → List CoverGoal → List ℕ
missed_lines rules goals = flat_map (missed_line rules) goals

-- how many there are, if there are some
abbrev pub missed_count : ℕ → List ℕ
missed_count n = if n == 0 then [] else decimal n ++ codes " goals are in no line\n"

-- what lines are for; then the goals that no line reaches, and their number
abbrev pub cover_text : LineUnit → List Rule → List CoverLine → List CoverGoal → List ℕ
cover_text unit rules lines missed =
    reached_lines unit rules 1 lines ++ (missed_lines rules missed ++ missed_count (length missed))

-- .. if that is asked for
abbrev pub asked_text : Bool → LineUnit → List Rule → List CoverLine → List CoverGoal → List ℕ
asked_text explain unit rules lines missed = if explain then cover_text unit rules lines missed else []

-- The lists are the first lines of some that reach the goals. The text says, if that is asked for, what each of them is
-- for, and which goals no line reaches.
pub record AreGoalsReported (explain : Bool) (unit : LineUnit) (b : LineBounds) (rules : List Rule) (id : ℕ)
    (ws : List (List ℕ)) (text : List ℕ) : Type 0 where
  pub lines : List CoverLine
  pub missed : List CoverGoal
  pub count : ℕ
  pub cover : IsCover b rules id lines
  pub are_missed : AreMissed b rules id missed
  pub are : ws ≡ line_items (take count lines)
  pub is : text ≡ asked_text explain unit rules (take count lines) missed
