-- Findings, and the names of severities and codes.
use Rattle.std.specs.Prelude.{ℕ, List, ◌++◌, codes}
use Rattle.findings.specs.declared.finding.Code.{Code}
use Rattle.findings.specs.declared.finding.Code.TheVariants as code
use Rattle.findings.specs.declared.finding.Finding.{Finding}
use Rattle.findings.specs.declared.finding.FurtherPosition.{FurtherPosition}
use Rattle.findings.specs.declared.finding.Location.{Location}
use Rattle.findings.specs.declared.finding.Severity.{Severity}
use Rattle.findings.specs.declared.finding.Severity.TheVariants.{Error, Warning, Note}

abbrev pub name_of_severity : Severity → List ℕ
name_of_severity Error = codes "error"
name_of_severity Warning = codes "warning"
name_of_severity Note = codes "note"

abbrev pub name_of_code : Code → List ℕ
name_of_code code.Syntax = codes "syntax"
name_of_code code.Nested = codes "nested"
name_of_code code.Number = codes "number"
name_of_code code.CodePredicate = codes "code-predicate"
name_of_code code.TooLong = codes "too-long"
name_of_code code.Redefined = codes "redefined"
name_of_code code.Undefined = codes "undefined"
name_of_code code.Unused = codes "unused"
name_of_code code.Extended = codes "extended"
name_of_code code.Prose = codes "prose"
name_of_code code.LeftRecursion = codes "left-recursion"
name_of_code code.Loop = codes "loop"
name_of_code code.DerivesNothing = codes "derives-nothing"
name_of_code code.NoLine = codes "no-line"
name_of_code code.Reversed = codes "reversed"
name_of_code code.NeverTaken = codes "never-taken"
name_of_code code.HeldDefinition = codes "held-definition"
name_of_code code.NoBegin = codes "no-begin"
name_of_code code.Refused = codes "refused"
name_of_code code.NoMatch = codes "no-match"

-- a finding: where, how grave, what it says, and what it is about
pub record FoundAt : Type 0 where
  pub location : Location
  pub severity : Severity
  pub message : List ℕ
  pub about : Code

-- a further position of a finding, and what is reported of it
pub record FurtherAt : Type 0 where
  pub location : Location
  pub report : List ℕ

-- what the code's values stand for
abbrev pub finding_at : Finding → FoundAt
finding_at f = record {
  location = f.location;
  severity = f.severity;
  message = f.message.what.now ++ (f.message.mark.now ++ f.message.more.now);
  about = f.code;
}

abbrev pub further_at : FurtherPosition → FurtherAt
further_at f = record { location = f.location; report = f.report.now }
