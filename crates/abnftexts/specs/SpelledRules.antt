-- What the rules that are printed spell.
use Rattle.std.specs.Prelude.{◌&&◌, not, List, [], ◌∷◌, slice_get}
use Rattle.std.specs.List.{filter_map}
use Rattle.abnfread.specs.Element.{Definition}
use Rattle.abnftexts.specs.GivenRules.{RuleGiven}
use Rattle.abnftexts.specs.JoinedRules.{joined_order}
use Rattle.abnftexts.specs.JoinedGrammar.{ordered_rules, standing_positions, standing_rules}
use Rattle.abnftexts.specs.OnlyProse.{only_prose}
use Rattle.abnftexts.specs.RulesGathered.{RuleLines, RulesGathered}
use Rattle.abnftexts.specs.TextRules.{SpellRule}

-- the rules that are printed of what was gathered, in the order in which they are printed, and the lines of each
abbrev pub joined_rules : RulesGathered → List RuleGiven
joined_rules g = filter_map (slice_get (standing_rules g)) (joined_order (standing_rules g))

abbrev pub joined_positions : RulesGathered → List RuleLines
joined_positions g = ordered_rules (standing_positions g) (joined_order (standing_rules g))

-- a definition, wherever its name stands
abbrev pub unplaced : Definition → RuleGiven
unplaced d = record { adds = d.adds; name = d.name; body = d.body; is_prose = not d.adds && only_prose d.body }

-- the rule as its own elements say: whether it is prose alone is said of those that are written
abbrev pub as_written : RuleGiven → RuleGiven
as_written rule = record {
  adds = rule.adds;
  name = rule.name;
  body = rule.body;
  is_prose = not rule.adds && only_prose rule.body;
}

-- The definitions that the texts of rules spell, each rule's read alone, one after another.
pub data AreSpelled : List RuleLines → List RuleGiven → List Definition → Type 0 where
  no_rules : AreSpelled [] [] []
  next_rule : {position : RuleLines} {given : RuleGiven} {positions : List RuleLines} {rules : List RuleGiven}
      {others : List Definition} (spells : SpellRule position.text (as_written given))
      → AreSpelled positions rules others
      → AreSpelled (position ∷ positions) (given ∷ rules) (spells.definition ∷ others)
