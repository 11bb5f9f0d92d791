-- What explains that no unit goes on: of the last unit and the one before it, where the one fails farthest whose
-- failing byte stands farther in the input.
use Rattle.std.specs.Prelude.{◌≡◌, ℕ, zero, suc, ◌+◌, List, [], ◌++◌, Option, Some, None, take, drop}
use Rattle.gramcheck.specs.Outcome.{Outcome, RuleGives}
use Rattle.matchfailure.specs.Farthest.{IsFarthest, NoneFails}
use Rattle.matchfailure.specs.ReportedUnit.{reported_unit_of}
use Rattle.matchfailure.specs.declared.farthest.reported.LastUnit.{LastUnit}
use Rattle.matchfailure.specs.declared.farthest.reported.LastUnit.TheVariants.{Last, Before}
use Rattle.matchfailure.specs.declared.farthest.visit.Visit.{Visit}
use Rattle.pegnodes.specs.NodeLists.{AreNumbered}
use Rattle.pegnodes.specs.Nodes.{Shape}
use Rattle.pegread.specs.Pattern.{Rule}
use Rattle.matchfailure.specs.NodeTexts.{name_of_rule}
use Rattle.matchfailure.specs.NoMatchLines.{failure_lines, opening}
use Rattle.matchfailure.specs.ReportOrder.{AreReported}
use Rattle.matchfailure.specs.UnitEnds.{takes_no_byte}
use Rattle.matchfailure.specs.InputPositions.{position_after}

-- where a unit fails farthest outside of `!`
pub record UnitFailure : Type 0 where
  -- how many bytes stand before the unit
  pub unit : ℕ
  -- how many bytes of the unit stand before the failing one
  pub position : ℕ
  -- what was expected there
  pub expected : List Visit

-- the failing byte in the input
abbrev pub failing_byte : Option UnitFailure → Option ℕ
failing_byte None = None
failing_byte (Some f) = Some (f.unit + f.position)

-- the failure that is reported, of those of the unit before and of the last one
abbrev pub failure_of : LastUnit → Option UnitFailure → Option UnitFailure → Option UnitFailure
failure_of Last before last = last
failure_of Before before last = before

abbrev pub reported_failure : Option UnitFailure → Option UnitFailure → Option UnitFailure
reported_failure before last = failure_of (reported_unit_of (failing_byte before) (failing_byte last)) before last

-- the position of the unit before the last one, which begins so many bytes after it; none if it is no byte
abbrev pub unit_before : ℕ → ℕ → Option ℕ
unit_before byte zero = None
unit_before byte (suc n) = Some byte

module _ (rules : List Rule) (start : ℕ) (nodes : List Shape) (bodies text : List ℕ) where
  -- where the unit that begins there in the text fails farthest, or nothing if it fails nowhere
  abbrev pub IsUnitFailure : ℕ → Option UnitFailure → Type 0
  IsUnitFailure unit None = NoneFails rules nodes bodies (drop unit text) start
  IsUnitFailure unit (Some f) =
      (f.unit ≡ unit) × IsFarthest rules nodes bodies (drop unit text) start f.position f.expected

  -- likewise of a unit that there may be
  abbrev pub IsFailureOf : Option ℕ → Option UnitFailure → Type 0
  IsFailureOf None failure = failure ≡ None
  IsFailureOf (Some unit) failure = IsUnitFailure unit failure

-- what is reported of what was expected, if there is a failure
abbrev pub AreReportedOf : List Rule → ℕ → List Shape → List ℕ → Option UnitFailure → List Visit → Type 0
AreReportedOf rules start nodes bodies None reported = reported ≡ []
AreReportedOf rules start nodes bodies (Some f) reported =
    AreReported rules start nodes bodies f.unit f.position f.expected reported

-- the lines of a failure in a text, if there is one
abbrev pub lines_of_failure : List Rule → List Shape → List ℕ → List ℕ → Option UnitFailure → List Visit → List ℕ
lines_of_failure rules nodes bodies text None reported = []
lines_of_failure rules nodes bodies text (Some f) reported =
    failure_lines rules nodes bodies (drop f.unit text)
    (position_after (take (f.unit + f.position) text)) f.unit f.position
    reported

-- the lines of a failure with the line before them, where the start rule gives this on the last unit
abbrev pub no_match_lines : Outcome → List ℕ → List ℕ → List ℕ
no_match_lines outcome name lines = opening (takes_no_byte outcome) name lines ++ lines

-- The lines explain that no unit goes on after the last one of an input, of which these bytes are taken.
pub record IsNoMatchReported (rules : List Rule) (start : ℕ) (text : List ℕ) (before : Option ℕ) (last : ℕ)
    (lines : List ℕ) : Type 0 where
  pub nodes : List Shape
  pub bodies : List ℕ
  pub numbered : AreNumbered rules nodes bodies
  pub of_before : Option UnitFailure
  pub of_last : Option UnitFailure
  pub before_fails : IsFailureOf rules start nodes bodies text before of_before
  pub last_fails : IsUnitFailure rules start nodes bodies text last of_last
  -- what the start rule gives on the last unit, and how far it looks
  pub outcome : Outcome
  pub looked : ℕ
  pub gives : RuleGives rules start (drop last text) outcome looked
  -- what is reported of what was expected
  pub reported : List Visit
  pub in_report_order : AreReportedOf rules start nodes bodies (reported_failure of_before of_last) reported
  pub are : lines ≡ no_match_lines outcome (name_of_rule rules start)
      (lines_of_failure rules nodes bodies text (reported_failure of_before of_last) reported)
