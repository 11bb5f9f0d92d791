-- The findings of messages on a grammar that reads.
use Rattle.std.specs.Prelude.{ℕ, ◌==◌, ◌&&◌, Bool, true, List, [], ◌∷◌, ◌++◌, map, Option, Some, None, codes}
use Rattle.std.specs.Prelude.{if◌then◌else◌, option_map}
use Rattle.findings.specs.ExplainingLines.{chain_in, first_report}
use Rattle.findings.specs.FindingTexts.{finding_text}
use Rattle.findings.specs.Findings.{FurtherAt}
use Rattle.findings.specs.MessageParts.{ReportAt, quoted_in, report_in}
use Rattle.findings.specs.NameColumns.{name_location}
use Rattle.findings.specs.declared.finding.Code.{Code}
use Rattle.findings.specs.declared.finding.Code.TheVariants.{HeldDefinition, NeverTaken, NoBegin, Reversed}
use Rattle.findings.specs.declared.finding.Location.{Location}
use Rattle.findings.specs.declared.finding.Severity.{Severity}
use Rattle.findings.specs.declared.finding.Severity.TheVariants.{Error, Warning}
use Rattle.findings.specs.declared.form.FindingForm.{FindingForm}
use Rattle.findings.specs.declared.notes.GrammarText.{GrammarText}
use Rattle.findings.specs.declared.sorts.Rank.{Rank}
use Rattle.findings.specs.declared.sorts.Rank.TheVariants.{Rejects, Warns, RejectsIfReached}
use Rattle.findings.specs.declared.sorts.Sort.{Sort}
use Rattle.ruletable.specs.Rules.{same_name}
use Rattle.ruletable.specs.declared.table.NameCase.{NameCase}
use Rattle.ruletable.specs.declared.table.NameCase.TheVariants.{Fold}

-- a grammar's text: the form of findings in it, the name of its file, its lines, how names compare, and the name of the
-- judged rule, if only what that reaches rejects the grammar
pub record GrammarAt : Type 0 where
  pub form : FindingForm
  pub file : List ℕ
  pub lines : List (List ℕ)
  pub names : NameCase
  pub judged : Option (List ℕ)

-- what the code's text stands for
abbrev pub grammar_at : GrammarText → GrammarAt
grammar_at g = record {
  form = g.form;
  file = g.file.now;
  lines = map (λ l. l.now) g.lines.now;
  names = g.names;
  judged = option_map (λ b. b.now) g.judged;
}

-- the rule of that name counts as reached: each does where no rule is judged; else it is the judged one, or there is a
-- chain to it
abbrev pub is_reached : Option (List ℕ) → List ℕ → Option (List ℕ) → Bool
is_reached None name chain = true
is_reached (Some judged) name (Some words) = true
is_reached (Some judged) name None = same_name Fold judged name

abbrev pub severity_of : Rank → Bool → Severity
severity_of Rejects reached = Error
severity_of Warns reached = Warning
severity_of RejectsIfReached reached = if reached then Error else Warning

-- what there is, as a list
abbrev pub option_list : {A : Type 0} → Option A → List A
option_list None = []
option_list (Some x) = x ∷ []

-- the position of the name in the line of that number, if there is one
abbrev pub location_reported : GrammarAt → Option ℕ → List ℕ → Location
location_reported g None name = record { line = 1; column = 1 }
location_reported g (Some n) name = name_location g.names g.lines n name

-- a message, and more on it after a mark, if there is more
abbrev pub with_more : List ℕ → List ℕ → Option (List ℕ) → List ℕ
with_more head mark None = head
with_more head mark (Some more) = head ++ mark ++ more

-- a hint has what is reported of its line after it, another message the chain to its rule
abbrev pub wording : Code → List ℕ → Option (List ℕ) → Option (List ℕ) → List ℕ
wording NeverTaken head report chain = with_more head (codes ": ") report
wording HeldDefinition head report chain = with_more head (codes ": ") report
wording NoBegin head report chain = with_more head (codes ": ") report
wording Reversed head report chain = with_more head (codes ": ") report
wording _ head report chain = with_more head (codes ", ") chain

module _ (g : GrammarAt) (name : List ℕ) (location : Location) where
  -- a further position, if it is another one
  abbrev pub further_unless : Location → List ℕ → Option FurtherAt
  further_unless other report = if (other.line == location.line) && (other.column == location.column) then None
      else Some (record { location = other; report = report })

  abbrev pub further_if : Option ReportAt → Option FurtherAt
  further_if None = None
  further_if (Some report) = further_unless (name_location g.names g.lines report.number name) report.report

  -- the further position that an explaining line gives, if it gives one
  abbrev pub further_in : List ℕ → Option FurtherAt
  further_in l = further_if (report_in (codes "  line ") l)

  -- the further positions that these lines give
  abbrev pub all_further : List (List ℕ) → List FurtherAt
  all_further [] = []
  all_further (l ∷ ls) = option_list (further_in l) ++ all_further ls

-- the finding of a message on the rule of that name, where that is reported first, and there is that chain to the rule
abbrev pub found_text : GrammarAt → Sort → List ℕ → List (List ℕ) → List ℕ → Option ReportAt → Option (List ℕ) → List ℕ
found_text g sort head more name first chain =
    let location = location_reported g (option_map (λ t. t.number) first) name in
    finding_text g.form g.file (record {
      location = location;
      severity = severity_of sort.rank (is_reached g.judged name chain);
      message = wording sort.code head (option_map (λ t. t.report) first) chain;
      about = sort.code;
    }) (all_further g name location more)

-- the finding of a message of that sort, which these lines explain
abbrev pub note_finding : GrammarAt → Sort → List ℕ → List (List ℕ) → List ℕ
note_finding g sort head more = found_text g sort head more (quoted_in head) (first_report more) (chain_in more)
