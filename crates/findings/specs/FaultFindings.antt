-- The findings of faults of a grammar's text.
use Rattle.std.specs.Prelude.{ℕ, List, [], Option, Some, None, codes, if◌then◌else◌, option_map, slice_get}
use Rattle.std.specs.Str.{bytes_eq}
use Rattle.findings.specs.FindingTexts.{finding_text}
use Rattle.findings.specs.MessageParts.{ReportAt, after_front, report_in}
use Rattle.findings.specs.MessageSorts.{starts_so}
use Rattle.findings.specs.NameColumns.{blanks_from, line_numbered}
use Rattle.findings.specs.NoteFindings.{GrammarAt, with_more}
use Rattle.findings.specs.declared.faults.Fault.{Fault}
use Rattle.findings.specs.declared.finding.Code.{Code}
use Rattle.findings.specs.declared.finding.Code.TheVariants as code
use Rattle.findings.specs.declared.finding.Severity.TheVariants.{Error}

-- a fault: its line, what is wrong there, and what that is about
pub record FaultAt : Type 0 where
  pub line : ℕ
  pub what : List ℕ
  pub about : Code

-- what the code's fault stands for
abbrev pub fault_at : Fault → FaultAt
fault_at f = record { line = f.line; what = f.what.now; about = f.code }

-- what a fault of that wording is about
abbrev pub code_of_fault : List ℕ → Option Code
code_of_fault what =
    if bytes_eq what (codes "syntax error") then Some code.Syntax else
    if bytes_eq what (codes "nested too deeply") then Some code.Nested else
    if bytes_eq what (codes "number too large") then Some code.Number else
    if bytes_eq what (codes "code predicate") then Some code.CodePredicate else None

abbrev pub fault_if : ReportAt → Option Code → Option FaultAt
fault_if report None = None
fault_if report (Some about) = Some (record { line = report.number; what = report.report; about = about })

abbrev pub fault_reported : Option ReportAt → Option FaultAt
fault_reported None = None
fault_reported (Some report) = fault_if report (code_of_fault report.report)

-- the fault that a message reports, if it reports one
abbrev pub fault_of_head : List ℕ → Option FaultAt
fault_of_head head = fault_reported (report_in (codes "line ") head)

abbrev pub column_reported : Option (List ℕ) → Option ReportAt
column_reported None = None
column_reported (Some l) = report_in (codes "  column ") l

-- the column of a fault, and what can stand there: the line below its picture, which has two lines, gives them
abbrev pub pictured : List (List ℕ) → Option ReportAt
pictured more = column_reported (slice_get more 2)

abbrev pub end_if : Option (List ℕ) → Option (List ℕ)
end_if None = None
end_if (Some words) = if starts_so words (codes "at the end of the text: ") then Some words else None

abbrev pub end_in : Option (List ℕ) → Option (List ℕ)
end_in None = None
end_in (Some l) = end_if (after_front (codes "  ") l)

-- what can stand at the end of the text, if the fault stands there
abbrev pub end_words : List (List ℕ) → Option (List ℕ)
end_words more = end_in (slice_get more 0)

-- the column of a fault in the line of that number: the reported one, or that of the first byte that is no blank
abbrev pub column_of_fault : GrammarAt → ℕ → Option ℕ → ℕ
column_of_fault g line None = blanks_from 1 (line_numbered g.lines line)
column_of_fault g line (Some column) = column

-- what can stand there: as it is reported with the column, or else at the end of the text
abbrev pub words_of_fault : Option (List ℕ) → Option (List ℕ) → Option (List ℕ)
words_of_fault None words = words
words_of_fault (Some report) words = Some report

-- the finding of a fault, where its column and what can stand there are reported, or else that at the end of the text
abbrev pub fault_line : GrammarAt → FaultAt → Option ReportAt → Option (List ℕ) → List ℕ
fault_line g f report words = finding_text g.form g.file (record {
  location = record { line = f.line; column = column_of_fault g f.line (option_map (λ r. r.number) report) };
  severity = Error;
  message = with_more f.what (codes ": ") (words_of_fault (option_map (λ r. r.report) report) words);
  about = f.about;
}) []

-- the finding of a fault, which these lines explain
abbrev pub fault_finding : GrammarAt → FaultAt → List (List ℕ) → List ℕ
fault_finding g f more = fault_line g f (pictured more) (end_words more)
