-- The explanations of the rejected lines of an input, and what a run of its lines states.
use Rattle.std.specs.Prelude.{◌≡◌, ℕ, ◌+◌, ◌-◌, nat_lt, ◌&&◌, not, Bool, true, false, List, [], ◌++◌, codes, decimal}
use Rattle.std.specs.Prelude.{if◌then◌else◌}
use Rattle.toolrun.specs.Explained.{ExplainedIf}
use Rattle.toolrun.specs.Input.{Input}
use Rattle.toolrun.specs.Reply.{Reply}
use Rattle.toolrun.specs.RunEnd.{more_refused}
use Rattle.toolrun.specs.RunSteps as steps
use Rattle.toolrun.specs.Stop.{not_explained}
use Rattle.toolrun.specs.declared.stop.Stop.{Stop}
use Rattle.toolrun.specs.declared.stop.Stop.TheVariants.{Quiet, NoMatch, LongUnit, LongLine, Broken, NoMemory, Refused}
use Rattle.toolrun.specs.declared.stop.Stop.TheVariants.{CostlyUnit, CostlyLine, Unreadable}
use Rattle.linejudge.specs.InputLines.{GoesBy, LinesEnd, Lines, at_front, next_position, position_taken, says_yes}
use Rattle.linejudge.specs.declared.answers.Answer.{Answer}
use Rattle.linejudge.specs.declared.line.LineForm.{LineForm}
use Rattle.linejudge.specs.declared.reached.LinePosition.{LinePosition}

-- Whether a line with that answer, after so many rejected ones, is explained, where that is asked: the first 16
-- rejected lines are.
abbrev pub is_reported : Bool → ℕ → Answer → Bool
is_reported asked refused said = asked && (not (says_yes said) && nat_lt refused 16)

-- how many rejected lines are not explained, where that is asked
abbrev pub count_unreported : Bool → ℕ → ℕ
count_unreported asked refused = if asked then refused - 16 else 0

-- what a line that is too long may have at most
abbrev pub limit_line : List ℕ
limit_line = codes "  -l allows at most 16777216\n"

-- the lines that explain a stop: that of a line that is too long is
abbrev pub stop_lines : Stop → List ℕ
stop_lines (Quiet status) = []
stop_lines (NoMatch at) = []
stop_lines (LongUnit at limit) = []
stop_lines (CostlyUnit at budget) = []
stop_lines (LongLine line limit) = limit_line
stop_lines (CostlyLine line budget) = []
stop_lines Broken = []
stop_lines NoMemory = []
stop_lines (Refused fault) = []
stop_lines Unreadable = []

-- an allocation failed in the explanation of the rejected line of that number
abbrev pub unexplained_line : ℕ → List ℕ
unexplained_line number = codes "line " ++ (decimal number ++ (codes ": no\n" ++ not_explained))

-- a position in a run, and whether an allocation failed in an explanation before it
pub record RunPoint : Type 0 where
  pub at : LinePosition
  pub lacks : Bool

-- the lines up to a point, and what is printed for them, where Reported says which answer is that of a line
abbrev pub LinesTo : (List ℕ → Answer → Type 0) → LineForm → Input → RunPoint → List ℕ → Type 0
LinesTo Reported form input point text = Lines Reported form input point.at text

-- how a run ends at a point, and what is printed then, where NeedsMore says which lines need more than so many items
abbrev pub EndsAt : (List ℕ → ℕ → Type 0) → LineForm → Input → RunPoint → List ℕ → Stop → Type 0
EndsAt NeedsMore form input point last stop = LinesEnd NeedsMore form input point.at last stop

-- how many bytes are taken where the last line is looked for there
abbrev pub taken_by : ℕ → Input → RunPoint → ℕ
taken_by limit input point = position_taken limit input point.at

-- What explains a stop at a point, where that is asked. It makes no allocation that can fail then. Nothing explains
-- it after an explanation that is missing.
abbrev pub WhyTo : Bool → Input → RunPoint → Stop → List ℕ → Type 0
WhyTo asked input point stop why = ExplainedIf (asked && not point.lacks) (λ text. text ≡ stop_lines stop) why

-- no explanation of a stop is missing
abbrev pub NeverLacks : Input → RunPoint → Stop → Type 0
NeverLacks input point stop = ⊥

-- Reported says which answer is that of a line, asked whether rejected lines are explained, and Refusal how, where a
-- line has that number.
module _ (Reported : List ℕ → Answer → Type 0) (asked : Bool) (Refusal : List ℕ → ℕ → List ℕ → Type 0) where
  -- the explanation of a line with that answer at a position
  abbrev pub ReportsLine : LinePosition → List ℕ → Answer → List ℕ → Type 0
  ReportsLine at line said text = ExplainedIf (is_reported asked at.refused said) (Refusal line (at.count + 1)) text

  module _ (form : LineForm) (input : Input) where
    -- the explanations of the lines up to a position
    pub data Refusals : LinePosition → List ℕ → Type 0 where
      none_reported : Refusals at_front []
      one_reported : (at : LinePosition) (before line : List ℕ) (n : ℕ) (said : Answer) (text : List ℕ)
          → Refusals at before
          → GoesBy form input at line n → Reported line said → ReportsLine at line said text
          → Refusals (next_position at n said) (before ++ text)

    -- the explanations of the lines before one that would be explained, a line in place of its explanation, and nothing
    -- of the lines after it
    pub data CutRefusals : LinePosition → List ℕ → Type 0 where
      one_lacks : (at : LinePosition) (before line : List ℕ) (n : ℕ) (said : Answer) → Refusals at before
          → GoesBy form input at line n → Reported line said → is_reported asked at.refused said ≡ true
          → CutRefusals (next_position at n said) (before ++ unexplained_line (at.count + 1))
      none_after : (at : LinePosition) (reported line : List ℕ) (n : ℕ) (said : Answer) → CutRefusals at reported
          → GoesBy form input at line n → Reported line said → CutRefusals (next_position at n said) reported

    -- the explanations of the lines up to a position: all of them, or those before one that is missing
    abbrev pub ReportedUpTo : Bool → LinePosition → List ℕ → Type 0
    ReportedUpTo false at reported = Refusals at reported
    ReportedUpTo true at reported = CutRefusals at reported

    -- and how many more lines are rejected, unless an explanation is missing
    pub record ReportsTo (point : RunPoint) (reported : List ℕ) : Type 0 where
      pub first : List ℕ
      pub refusals : ReportedUpTo point.lacks point.at first
      pub is : reported ≡ first ++ more_refused (count_unreported (asked && not point.lacks) point.at.refused)

    -- the explanations where none is missing
    pub record Reports (at : LinePosition) (reported : List ℕ) : Type 0 where
      pub first : List ℕ
      pub refusals : Refusals at first
      pub is : reported ≡ first ++ more_refused (count_unreported asked at.refused)

    -- what explains a stop there, where that is asked
    abbrev pub WhyStopped : LinePosition → Stop → List ℕ → Type 0
    WhyStopped at stop why = ExplainedIf asked (λ text. text ≡ stop_lines stop) why

  module _ (NeedsMore : List ℕ → ℕ → Type 0) (form : LineForm) (input : Input) where
    -- the lines of the input in turn, the explanations of those that are rejected, and how the run ends; no allocation
    -- fails
    abbrev pub LinesReply : Reply → Type 0
    LinesReply reply = steps.RepliesReported (Lines Reported form input) (LinesEnd NeedsMore form input)
        (position_taken form.limit input)
        (Reports form input) (WhyStopped form input) (λ at stop. ⊥) reply

    -- So a run states its reply. Where an allocation fails in an explanation, that one is missing and none follows, but
    -- all that the run writes otherwise, and its status, are as ever. Where any other allocation fails, it states the
    -- text of the first lines, and what is reported of them.
    abbrev pub LinesStates : Reply → Type 0
    LinesStates reply = steps.ReportedStates (LinesTo Reported form input) (EndsAt NeedsMore form input)
        (taken_by form.limit input)
        (ReportsTo form input) (WhyTo asked input) (NeverLacks input) reply
