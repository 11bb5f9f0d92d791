-- What stands after what was gathered so far. It serves private helpers alone.
use Rattle.std.specs.Prelude.{◌≡◌, ◌≤◌, ℕ, drop, length, Bool, true, false, Option, None, Some, List, [], ◌∷◌}
use Rattle.std.specs.Prelude.{◌++◌, map, take}
use Rattle.abnfread.specs.AbnfReading.{Reads}
use Rattle.abnfread.specs.Element.{Definition}
use Rattle.abnfblocks.specs.MaskedLines.{AreRead, ReadsLines}
use Rattle.abnfblocks.specs.FoundRules.{AreFound}
use Rattle.abnfblocks.specs.TextLines.{NumberedLine, numbered}
use Rattle.abnfblocks.specs.RuleCuts.{lines_text, margin_at}
use Rattle.abnfblocks.specs.declared.found.RuleSearch.{RuleSearch}
use Rattle.abnftexts.specs.GivenRules.{RuleGiven}
use Rattle.abnftexts.specs.NamedRules.{SpellsNamed}
use Rattle.abnftexts.specs.RulesGathered.{NamedText, ReportedRule, RulesGathered, both_given, one_rule}
use Rattle.abnftexts.specs.WrittenLists.{AreExpanded}
use Rattle.ruletable.specs.declared.fault.ReadFault.{ReadFault}
use Rattle.abnftexts.specs.ShownTexts.{IsShown}
use Rattle.abnftexts.specs.declared.gathered.ShownText.{ShownText}
use Rattle.abnftexts.specs.declared.gathered.WrittenText.{WrittenText}
use Rattle.abnftexts.specs.declared.gathered.FoundText.{FoundText}
use Rattle.rfcforms.specs.declared.lists.written.ListForm.{ListForm}
use Rattle.abnftexts.specs.TextRules.{AreSketches, FindsText, GivesFound, GivesGroup, GivesGroups, IsRuleReported}
use Rattle.abnftexts.specs.TextRules.{SpellRule, TextFound, asks_lists, given_by, position_in, report_with, rules_seen}
use Rattle.abnftexts.specs.ValueRuns.{FoundRule, found_rules, groups_of, join_values, seen_at}
use Rattle.rfcvalues.specs.RuleSketches.{SketchedRule}

-- a text: its name, its lines, the same with lists written out, and whether lists are looked for
pub record TextRows : Type 0 where
  pub name : List ℕ
  pub kept : List NumberedLine
  pub lines : List NumberedLine
  pub asks : Bool

-- what the code's text stands for
abbrev pub text_rows : WrittenText → TextRows
text_rows text = record {
  name = text.name.now;
  kept = map numbered text.kept.items;
  lines = map numbered text.lines.items;
  asks = text.asks;
}

-- what is given for which that holds stands after what was gathered
abbrev pub TakesMore : (RulesGathered → Type 0) → RulesGathered → RulesGathered → Type 0
TakesMore Gives old new = (more : RulesGathered) × Gives more × (new ≡ both_given old more)

-- the text spells one definition, which is that rule, or it spells none
abbrev pub IsRuleOf : List ℕ → Option RuleGiven → Type 0
IsRuleOf text (Some given) = SpellRule text given
IsRuleOf text None = (d : Definition) → Reads text (d ∷ []) → ⊥

-- whether the text spells that rule, but that names may stand for prose
abbrev pub IsNamedOutcome : RuleGiven → List ℕ → Bool → Type 0
IsNamedOutcome rule text true = SpellsNamed rule text
IsNamedOutcome rule text false = SpellsNamed rule text → ⊥

-- where so many of these lines alone spell one definition, that rule stands there
abbrev pub TakesRule : List ℕ → List NumberedLine → List NumberedLine → ℕ → RulesGathered → RulesGathered → Type 0
TakesRule name sources rest count old new = (d : Definition)
    → Reads (lines_text (margin_at (take count rest)) (take count rest)) (d ∷ [])
    → new ≡ both_given old (one_rule (position_in name sources rest count) (given_by d))

-- where the lines are read of a text, others are written for them, and that is found after and before other things,
-- what these give stands there
abbrev pub TakesFound : TextRows → List RuleSearch → RulesGathered → RulesGathered → Type 0
TakesFound rows found old new =
    (text : List ℕ) (lists : Option ListForm) (front back : List RuleSearch) → AreRead text rows.kept
    → AreExpanded lists rows.kept rows.lines → AreFound 0 rows.lines (front ++ (found ++ back))
    → TakesMore (GivesFound rows.asks rows.name rows.kept rows.lines found) old new

-- the same for a group of what is found, with its sketches and marks
abbrev pub TakesGroup : TextRows → List RuleSearch → List SketchedRule → RulesGathered → RulesGathered → Type 0
TakesGroup rows group sketches old new =
    (text : List ℕ) (lists : Option ListForm) (front back : List RuleSearch) (marks : List Bool)
    → AreRead text rows.kept → AreExpanded lists rows.kept rows.lines → AreFound 0 rows.lines (front ++ (group ++ back))
    → length group ≡ length sketches → length group ≤ length marks
    → TakesMore (GivesGroup rows.asks rows.name rows.kept rows.lines (found_rules group sketches marks)) old new

-- and for all groups
abbrev pub TakesGroups : TextRows → List RuleSearch → List SketchedRule → List Bool → RulesGathered → RulesGathered
    → Type 0
TakesGroups rows found sketches marks old new =
    (text : List ℕ) (lists : Option ListForm) → AreRead text rows.kept
    → AreExpanded lists rows.kept rows.lines → AreFound 0 rows.lines found
    → length found ≤ length sketches → length found ≤ length marks
    → TakesMore (GivesGroups rows.asks rows.name rows.kept rows.lines
    (groups_of rows.lines (found_rules found sketches marks))) old new

-- so many of what is found are the first group
abbrev pub IsGroupSize : List NumberedLine → List RuleSearch → List SketchedRule → List Bool → ℕ → Type 0
IsGroupSize lines found sketches marks size =
    let rules = found_rules found sketches marks in groups_of lines rules
    ≡ take size rules ∷ groups_of lines (drop size rules)

-- the first two are values of one run
abbrev pub join_first : List NumberedLine → List FoundRule → Bool
join_first lines (before ∷ rule ∷ rules) = join_values lines before rule
join_first lines _ = false

-- the sketches of what is found follow others
abbrev pub AddSketches : TextRows → List RuleSearch → List SketchedRule → List SketchedRule → Type 0
AddSketches rows found old new = (more : List SketchedRule)
    × AreSketches (map (seen_at rows.kept rows.lines) found) more × (new ≡ old ++ more)

-- a text that is shown, its lines, and what is found among them
abbrev pub text_found : FoundText → TextFound
text_found text = record {
  name = text.rows.name.now;
  kept = map numbered text.rows.kept.items;
  lines = map numbered text.rows.lines.items;
  all_found = text.found.items;
}

-- what is found in a text that is shown
abbrev pub FindsShown : ShownText → FoundText → Type 0
FindsShown shown text = (lists : Option ListForm) (named : NamedText) → IsShown lists named shown
    → FindsText lists named (text_found text) × (text.rows.asks ≡ asks_lists lists)

-- and in several
pub data AreTextsFound (lists : Option ListForm) : List NamedText → List FoundText → Type 0 where
  none_found : AreTextsFound lists [] []
  next_found : {named : NamedText} {text : FoundText} {others : List NamedText} {texts : List FoundText}
      → FindsText lists named (text_found text) → text.rows.asks ≡ asks_lists lists
      → AreTextsFound lists others texts → AreTextsFound lists (named ∷ others) (text ∷ texts)

-- how many rules are found in them
abbrev pub rule_count : List FoundText → ℕ
rule_count texts = length (rules_seen (map text_found texts))

-- the report of a rule that is no ABNF follows
abbrev pub AddsReport : Bool → List ℕ → List NumberedLine → ReadFault → List ReportedRule → List ReportedRule → Type 0
AddsReport asks name lines fault old new = (message : List ℕ) × IsRuleReported asks name lines fault message
    × (new ≡ old ++ report_with message lines ∷ [])

-- a text with these lines has what is written for them, in the form that it is shown in
pub record AreTextRows (shown : ShownText) (kept : List NumberedLine) (rows : TextRows) : Type 0 where
  pub name : rows.name ≡ shown.name.now
  pub kept_are : rows.kept ≡ kept
  pub lists_are : (lists : Option ListForm) (text : NamedText) → IsShown lists text shown
      → ReadsLines shown.of_xml shown.bytes.items kept
      → AreExpanded lists kept rows.lines × (rows.asks ≡ asks_lists lists)
