-- What texts give: rules with their positions, and reports.
use Rattle.std.specs.Prelude.{ℕ, Option, List, [], ◌∷◌, ◌++◌, map, option_map}
use Rattle.abnftexts.specs.GivenRules.{RuleGiven, text_rule}
use Rattle.abnfblocks.specs.TextLines.{NumberedLine, numbered}
use Rattle.abnftexts.specs.declared.gathered.Gathered.{Gathered}
use Rattle.abnftexts.specs.declared.gathered.ListLine.{ListLine}
use Rattle.abnftexts.specs.declared.gathered.ListLine.TheVariants as listing
use Rattle.abnftexts.specs.declared.gathered.RulePosition.{RulePosition}
use Rattle.abnftexts.specs.declared.gathered.RuleReport.{RuleReport}
use Rattle.abnftexts.specs.declared.gathered.SourceText.{SourceText}

-- a text: its name, and its bytes
pub record NamedText : Type 0 where
  pub name : List ℕ
  pub bytes : List ℕ

-- where a rule stands: the name of its text, the lines there, the same with lists written out, the margin that is cut
-- from them, how many blank lines follow them, and what is written for them: comments, and the rule
pub record RuleLines : Type 0 where
  pub name : List ℕ
  pub margin : ℕ
  pub sources : List NumberedLine
  pub lines : List NumberedLine
  pub blanks : ℕ
  pub comments : List ℕ
  pub text : List ℕ

-- the report of a rule that is no ABNF: the line that reports it, and the lines of the rule as they stand; or the
-- report of lines that assign values, which has none
pub record ReportedRule : Type 0 where
  pub message : List ℕ
  pub lines : Option (List ℕ)

-- an entry of the list: that of the next rule, or the line of a rule that assigns a value
pub data ListEntry : Type 0 where
  OfRule : ListEntry
  OfValue : List ℕ → ListEntry

-- the rules of texts in order, the lines of each, the reports of rules that are no ABNF and of lines that assign
-- values, and the entries of the list
pub record RulesGathered : Type 0 where
  pub positions : List RuleLines
  pub rules : List RuleGiven
  pub reported : List ReportedRule
  pub list : List ListEntry

-- what the code's values stand for
abbrev pub named_text : SourceText → NamedText
named_text text = record { name = text.name.now; bytes = text.bytes.now }

abbrev pub lines_placed : RulePosition → RuleLines
lines_placed position = record {
  name = position.name.now;
  margin = position.margin;
  sources = map numbered position.sources.items;
  lines = map numbered position.lines.items;
  blanks = position.blanks;
  comments = position.comments.items;
  text = position.text.items;
}

abbrev pub reported_rule : RuleReport → ReportedRule
reported_rule report = record {
  message = report.message.items;
  lines = option_map (λ lines. lines.items) report.lines;
}

abbrev pub entry_listed : ListLine → ListEntry
entry_listed listing.Rule = OfRule
entry_listed (listing.Value line) = OfValue line.items

abbrev pub rules_gathered : Gathered → RulesGathered
rules_gathered gathered = record {
  positions = map lines_placed gathered.positions.items;
  rules = map text_rule gathered.rules.items;
  reported = map reported_rule gathered.reported.items;
  list = map entry_listed gathered.list.items;
}

-- nothing is given
abbrev pub none_given : RulesGathered
none_given = record { positions = []; rules = []; reported = []; list = [] }

-- one rule
abbrev pub one_rule : RuleLines → RuleGiven → RulesGathered
one_rule position rule = record { positions = position ∷ []; rules = rule ∷ []; reported = []; list = OfRule ∷ [] }

-- no rule, and a report
abbrev pub reported_alone : ReportedRule → RulesGathered
reported_alone report = record { positions = []; rules = []; reported = report ∷ []; list = [] }

-- both, one after the other
abbrev pub both_given : RulesGathered → RulesGathered → RulesGathered
both_given a b = record {
  positions = a.positions ++ b.positions;
  rules = a.rules ++ b.rules;
  reported = a.reported ++ b.reported;
  list = a.list ++ b.list;
}
