-- The joined grammar that the code's stands for.
use Rattle.std.specs.Prelude.{◌≡◌, ℕ, List, map}
use Rattle.abnftexts.specs.GivenRules.{RuleGiven}
use Rattle.abnftexts.specs.JoinedGrammar.{GrammarJoined, UsesPrinted, gathered_joined, joined_of, standing_positions}
use Rattle.abnftexts.specs.JoinedGrammar.{standing_rules}
use Rattle.abnftexts.specs.RulesGathered.{ReportedRule, RuleLines, RulesGathered, reported_rule}
use Rattle.abnftexts.specs.UsedNames.{UsedName}
use Rattle.abnftexts.specs.declared.joined.JoinedTexts.{JoinedTexts}

abbrev pub grammar_joined : JoinedTexts → GrammarJoined
grammar_joined joined = record {
  grammar = joined.grammar.items;
  reports = map reported_rule joined.reports.items;
  reported = joined.reported.items;
  listed = joined.listed.items;
  is_faulty = joined.is_faulty;
}

-- it is that of these rules, which stand; and that of what was gathered
abbrev pub IsStandingJoined : List RuleLines → List RuleGiven → List ReportedRule → List ℕ → GrammarJoined → Type 0
IsStandingJoined positions rules reports listed joined = (uses : List UsedName) × UsesPrinted positions rules uses
    × (joined ≡ joined_of positions rules uses reports listed)

abbrev pub IsGatheredJoined : RulesGathered → GrammarJoined → Type 0
IsGatheredJoined g joined = (uses : List UsedName) × UsesPrinted (standing_positions g) (standing_rules g) uses
    × (joined ≡ gathered_joined g uses)
