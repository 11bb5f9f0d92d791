-- Which rules texts give, each with its own lines; and the reports of lines that begin a rule and are no ABNF.
use Rattle.std.specs.Prelude.{◌≡◌, ℕ, ◌&&◌, not, Bool, true, false, Option, None, Some, List, [], ◌∷◌}
use Rattle.std.specs.Prelude.{take, drop, length, map}
use Rattle.std.specs.List.{flat_map}
use Rattle.ruletable.specs.declared.fault.ReadFault.{ReadFault}
use Rattle.abnfread.specs.AbnfReading.{Reads}
use Rattle.abnfread.specs.AbnfTable.{first_body}
use Rattle.abnfread.specs.CoreRules.{core_list}
use Rattle.abnfread.specs.Element.{Definition, body_of}
use Rattle.abnftexts.specs.GivenRules.{RuleGiven}
use Rattle.abnftexts.specs.OnlyProse.{only_prose}
use Rattle.abnfblocks.specs.MaskedLines.{AreRead}
use Rattle.abnfblocks.specs.TextLines.{NumberedLine, after_mark}
use Rattle.abnfblocks.specs.FoundRules.{AreFound}
use Rattle.abnfblocks.specs.RuleCuts.{blanks_first, lines_text, margin_at}
use Rattle.abnfblocks.specs.declared.found.RuleSearch.{RuleSearch}
use Rattle.abnfblocks.specs.declared.found.RuleSearch.TheVariants as found
use Rattle.abnftexts.specs.RulesGathered.{NamedText, RuleLines, RulesGathered, both_given, none_given, one_rule}
use Rattle.abnftexts.specs.RulesGathered.{ReportedRule, reported_alone}
use Rattle.abnftexts.specs.TextPositions.{list_reported, not_abnf_reported}
use Rattle.abnftexts.specs.WrittenLists.{AreExpanded, IsFirstList}
use Rattle.abnftexts.specs.ValueRuns.{FoundRule, assigns_values, found_rules, groups_of, run_given, seen_at}
use Rattle.rfcvalues.specs.AssignedValues.{AreValueMarks}
use Rattle.rfcvalues.specs.RuleSketches.{IsSketch, RuleSeen, SketchedRule}
use Rattle.rfcforms.specs.declared.lists.written.ListForm.{ListForm}

-- The rule that a definition is, wherever its name stands: what adds to a core rule (RFC 5234, appendix B.1) has that
-- rule's alternatives before its own.
abbrev pub given_by : Definition → RuleGiven
given_by d = record {
  adds = d.adds;
  name = d.name;
  body = first_body (body_of core_list) d;
  is_prose = not d.adds && only_prose (first_body (body_of core_list) d);
}

-- The text spells one definition, which is the rule.
pub record SpellRule (text : List ℕ) (given : RuleGiven) : Type 0 where
  pub definition : Definition
  pub reads : Reads text (definition ∷ [])
  pub is : given ≡ given_by definition

-- where the rule stands that has so many of these lines, with lists written out; they are written without the margin
abbrev pub position_in : List ℕ → List NumberedLine → List NumberedLine → ℕ → RuleLines
position_in name sources rest count = record {
  name = name;
  margin = margin_at (take count rest);
  sources = take count sources;
  lines = take count rest;
  blanks = blanks_first (drop count rest);
  comments = [];
  text = lines_text (margin_at (take count rest)) (take count rest);
}

-- The report of a rule that is no ABNF, by its lines and their fault. Where that is asked for, a rule that reads with
-- its lists (RFC 9110, section 5.6.1) is reported for the first of them.
pub data IsRuleReported (asks : Bool) (name : List ℕ) (lines : List NumberedLine) (fault : ReadFault)
    : List ℕ → Type 0 where
  for_list : {n : ℕ} → asks ≡ true → IsFirstList lines (Some n)
      → IsRuleReported asks name lines fault (list_reported name lines n)
  for_fault : (asks ≡ true → IsFirstList lines None)
      → IsRuleReported asks name lines fault (not_abnf_reported name lines fault)

-- the report of a rule that has these lines, with that message
abbrev pub report_with : List ℕ → List NumberedLine → ReportedRule
report_with message lines = record { message = message; lines = Some (lines_text 0 lines) }

-- What is found gives that, where the first lines are those that are read of a text, and these are as they are written:
-- each rule what its lines alone spell, and each line that begins no ABNF a report.
pub data GivesFound (asks : Bool) (name : List ℕ) (kept lines : List NumberedLine)
    : List RuleSearch → RulesGathered → Type 0 where
  none_found : GivesFound asks name kept lines [] none_given
  next_rule : {first count : ℕ} {others : List RuleSearch} {given : RuleGiven} {after : RulesGathered}
      → SpellRule (lines_text (margin_at (take count (drop first lines))) (take count (drop first lines))) given
      → GivesFound asks name kept lines others after
      → GivesFound asks name kept lines (found.Rule first count ∷ others)
      (both_given (one_rule (position_in name (drop first kept) (drop first lines) count) given) after)
  no_rule : {first count : ℕ} {fault : ReadFault} {others : List RuleSearch} {message : List ℕ}
      {after : RulesGathered}
      → IsRuleReported asks name (take count (drop first lines)) fault message
      → GivesFound asks name kept lines others after
      → GivesFound asks name kept lines (found.NotAbnf first count fault ∷ others)
      (both_given (reported_alone (report_with message (take count (drop first lines)))) after)

-- lists are looked for where none is written out
abbrev pub asks_lists : Option ListForm → Bool
asks_lists None = true
asks_lists (Some form) = false

-- What a run of values or another rule gives: a run that is no ABNF its report, and else each rule what it gives alone.
pub data GivesGroup (asks : Bool) (name : List ℕ) (kept lines : List NumberedLine) (group : List FoundRule)
    : RulesGathered → Type 0 where
  a_run : assigns_values group ≡ true → GivesGroup asks name kept lines group (run_given name lines group)
  each_alone : {here : RulesGathered} → assigns_values group ≡ false
      → GivesFound asks name kept lines (map (λ rule. rule.it) group) here → GivesGroup asks name kept lines group here

-- what these give one after another
pub data GivesGroups (asks : Bool) (name : List ℕ) (kept lines : List NumberedLine)
    : List (List FoundRule) → RulesGathered → Type 0 where
  no_groups : GivesGroups asks name kept lines [] none_given
  next_group : {group : List FoundRule} {groups : List (List FoundRule)} {here after : RulesGathered}
      → GivesGroup asks name kept lines group here → GivesGroups asks name kept lines groups after
      → GivesGroups asks name kept lines (group ∷ groups) (both_given here after)

-- a text: its name, its lines, the same with lists written out, and what is found among these
pub record TextFound : Type 0 where
  pub name : List ℕ
  pub kept : List NumberedLine
  pub lines : List NumberedLine
  pub all_found : List RuleSearch

-- what is found in a text, with its lists written out in that form, if there is one
pub record FindsText (lists : Option ListForm) (text : NamedText) (there : TextFound) : Type 0 where
  pub name : there.name ≡ text.name
  pub keeps : AreRead (after_mark text.bytes) there.kept
  pub written : AreExpanded lists there.kept there.lines
  pub are_found : AreFound 0 there.lines there.all_found

pub data FindTexts (lists : Option ListForm) : List NamedText → List TextFound → Type 0 where
  no_texts : FindTexts lists [] []
  next_text : {text : NamedText} {texts : List NamedText} {there : TextFound} {others : List TextFound}
      → FindsText lists text there → FindTexts lists texts others → FindTexts lists (text ∷ texts) (there ∷ others)

-- the rules of texts as they are found
abbrev pub rules_seen : List TextFound → List RuleSeen
rules_seen texts = flat_map (λ there. map (seen_at there.kept there.lines) there.all_found) texts

-- the sketches of rules
pub data AreSketches : List RuleSeen → List SketchedRule → Type 0 where
  no_sketches : AreSketches [] []
  next_sketch : {rule : RuleSeen} {rules : List RuleSeen} {sketch : SketchedRule} {sketches : List SketchedRule}
      → IsSketch rule sketch → AreSketches rules sketches → AreSketches (rule ∷ rules) (sketch ∷ sketches)

-- what texts give one after another, where their rules have these sketches, of which values are marked
pub data GiveFound (asks : Bool) : List TextFound → List SketchedRule → List Bool → RulesGathered → Type 0 where
  none_there : {sketches : List SketchedRule} {marks : List Bool} → GiveFound asks [] sketches marks none_given
  next_there : {there : TextFound} {texts : List TextFound} {sketches : List SketchedRule} {marks : List Bool}
      {here after : RulesGathered}
      → GivesGroups asks there.name there.kept there.lines
      (groups_of there.lines (found_rules there.all_found sketches marks)) here
      → GiveFound asks texts (drop (length there.all_found) sketches) (drop (length there.all_found) marks) after
      → GiveFound asks (there ∷ texts) sketches marks (both_given here after)

-- what texts give: the rules of all of them say which of them assign values
pub record GiveTexts (lists : Option ListForm) (texts : List NamedText) (given : RulesGathered) : Type 0 where
  pub there : List TextFound
  pub finds : FindTexts lists texts there
  pub sketches : List SketchedRule
  pub are_sketches : AreSketches (rules_seen there) sketches
  pub marks : List Bool
  pub are_values : AreValueMarks sketches marks
  pub gives : GiveFound (asks_lists lists) there sketches marks given
