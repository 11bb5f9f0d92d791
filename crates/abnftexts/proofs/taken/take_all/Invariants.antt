use Rattle.std.proofs.Common.{◌≤◌, List, Option, drop, length}
use Rattle.abnftexts.specs.RulesGathered.{NamedText, RulesGathered, none_given, rules_gathered}
use Rattle.abnftexts.specs.TakenRules.{AreTextsFound, TakesMore, rule_count}
use Rattle.rfcforms.specs.declared.lists.written.ListForm.{ListForm}
use Rattle.abnftexts.proofs.RulesTakenLemmas.{GivesLeft}
use Rattle.abnftexts.proofs.taken.take_all.Given as goal

-- the texts to come complete what was taken so far
abbrev pub invariant-loop-text : goal.invariant-loop-text
invariant-loop-text l = (lists : Option ListForm) (named : List NamedText) → AreTextsFound lists named l.texts
    → rule_count l.texts ≤ length l.sketches → rule_count l.texts ≤ length l.values
    → (rule_count (drop l.text-index l.texts) ≤ length l.own)
    × (rule_count (drop l.text-index l.texts) ≤ length l.marks)
    × ((end : RulesGathered)
    → TakesMore (GivesLeft lists l.texts l.text-index l.own l.marks) (rules_gathered l.gathered) end
    → TakesMore (GivesLeft lists l.texts 0 l.sketches l.values) none_given end)
