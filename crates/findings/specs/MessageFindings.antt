-- The findings of the messages of a run.
use Rattle.std.specs.Prelude.{ℕ, ◌&&◌, ◌==◌, not, Bool, List, [], ◌∷◌, ◌++◌, Option, Some, None}
use Rattle.std.specs.Prelude.{if◌then◌else◌, length, option_map, take}
use Rattle.findings.specs.ExplainingLines.{count_explaining, is_explaining}
use Rattle.findings.specs.FaultFindings.{FaultAt, fault_of_head, fault_finding}
use Rattle.findings.specs.FirstRules.{first_rule_name}
use Rattle.findings.specs.InputFindings.{RejectedAt, plain_text, rejected_head, rejected_text}
use Rattle.findings.specs.MessageSorts.{sort_of}
use Rattle.findings.specs.NameColumns.{lines_in}
use Rattle.findings.specs.NoteFindings.{GrammarAt, note_finding}
use Rattle.findings.specs.UnitFindings.{unit_of_head}
use Rattle.findings.specs.declared.form.FindingForm.{FindingForm}
use Rattle.findings.specs.declared.messages.FindingManner.{FindingManner}
use Rattle.findings.specs.declared.messages.Syntax.{Syntax}
use Rattle.findings.specs.declared.messages.Syntax.TheVariants.{Peg, Abnf}
use Rattle.findings.specs.declared.sorts.Sort.{Sort}
use Rattle.ruletable.specs.declared.lines.LineRule.{LineRule}
use Rattle.ruletable.specs.declared.lines.LineRule.TheVariants.{Lf, Any}
use Rattle.ruletable.specs.declared.table.NameCase.{NameCase}
use Rattle.ruletable.specs.declared.table.NameCase.TheVariants.{Exact, Fold}

abbrev pub line_rule_in_syntax : Syntax → LineRule
line_rule_in_syntax Peg = Any
line_rule_in_syntax Abnf = Lf

abbrev pub case_in_syntax : Syntax → NameCase
case_in_syntax Peg = Exact
case_in_syntax Abnf = Fold

-- in ABNF the given rule is judged, or else the first one
abbrev pub judged_in_syntax : Syntax → Option (List ℕ) → List (List ℕ) → Option (List ℕ)
judged_in_syntax Peg start lines = None
judged_in_syntax Abnf (Some start) lines = Some start
judged_in_syntax Abnf None lines = Some (first_rule_name lines)

abbrev pub unit_or : GrammarAt → List ℕ → Option RejectedAt → List ℕ
unit_or g head None = plain_text g.file head
unit_or g head (Some r) = rejected_text g.form g.file r

abbrev pub rejected_or : GrammarAt → List ℕ → List (List ℕ) → Option RejectedAt → List ℕ
rejected_or g head more None = unit_or g head (unit_of_head head more)
rejected_or g head more (Some r) = rejected_text g.form g.file r

abbrev pub fault_or : GrammarAt → List ℕ → List (List ℕ) → Option FaultAt → List ℕ
fault_or g head more None = rejected_or g head more (rejected_head head)
fault_or g head more (Some f) = fault_finding g f more

-- what a message gives that is not on a grammar that reads
abbrev pub other_text : GrammarAt → List ℕ → List (List ℕ) → List ℕ
other_text g head more = fault_or g head more (fault_of_head head)

abbrev pub sorted_or : GrammarAt → List ℕ → List (List ℕ) → Option Sort → List ℕ
sorted_or g head more None = other_text g head more
sorted_or g head more (Some sort) = note_finding g sort head more

-- what a message gives, which these lines explain
abbrev pub message_text : GrammarAt → List ℕ → List (List ℕ) → List ℕ
message_text g head more = sorted_or g head more (sort_of head)

-- a message begins with the line: it has bytes, and no space begins it
abbrev pub begins_message : List ℕ → Bool
begins_message line = not (length line == 0) && not (is_explaining line)

-- what a line gives before those lines: if it begins a message, what that gives with those that explain it
abbrev pub text_from_line : GrammarAt → List ℕ → List (List ℕ) → List ℕ
text_from_line g l ls = if begins_message l then message_text g l (take (count_explaining ls) ls) else []

-- what the messages in lines give
abbrev pub messages_text : GrammarAt → List (List ℕ) → List ℕ
messages_text g [] = []
messages_text g (l ∷ ls) = text_from_line g l ls ++ messages_text g ls

-- a grammar's text in a file of that name, from the start rule if one is given, and the form of findings
abbrev pub grammar_given : FindingForm → Syntax → List ℕ → Option (List ℕ) → List (List ℕ) → GrammarAt
grammar_given form syntax file start lines = record {
  form = form;
  file = file;
  lines = lines;
  names = case_in_syntax syntax;
  judged = judged_in_syntax syntax start lines;
}

-- The messages of a run on the grammar or the input in a file of that name, as findings in that form. The text is that
-- of the grammar, or empty.
abbrev pub findings_text : FindingForm → Syntax → Option (List ℕ) → List ℕ → List ℕ → List ℕ → List ℕ
findings_text form syntax start file text messages =
    messages_text (grammar_given form syntax file start (lines_in (line_rule_in_syntax syntax) text))
    (lines_in Lf messages)

-- as the code asks for them
abbrev pub findings_asked : FindingManner → List ℕ → List ℕ → List ℕ → List ℕ
findings_asked m = findings_text m.form m.syntax (option_map (λ s. s.now) m.start)
