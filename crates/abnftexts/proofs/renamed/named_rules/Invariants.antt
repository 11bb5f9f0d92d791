use Rattle.std.proofs.Common.{◌++◌, ◌≤◌, List, length, map, drop}
use Rattle.abnftexts.specs.GivenRules.{RuleGiven, text_rule}
use Rattle.abnftexts.specs.NamedRules.{AreRulesNamed}
use Rattle.abnftexts.specs.RulesGathered.{lines_placed}
use Rattle.abnftexts.proofs.renamed.named_rules.Given as goal

-- the rules to come complete those so far
abbrev pub invariant-loop-rule : goal.invariant-loop-rule
invariant-loop-rule l = record {
  within : l.number ≤ length l.positions;
  so_far : (others : List RuleGiven)
      → AreRulesNamed (map lines_placed (drop l.number l.positions)) (map text_rule l.rule-iterator.rest.items) others
      → AreRulesNamed (map lines_placed l.positions) (map text_rule l.fn.rules.items)
      (map text_rule l.named.items ++ others);
}
