use Rattle.std.proofs.Common.{◌≡◌, false, map, take}
use Rattle.ruletable.specs.Rules.{names_of}
use Rattle.ruletable.specs.declared.table.NameCase.TheVariants.{Fold}
use Rattle.rfcvalues.specs.AssignedValues.{has_same_names}
use Rattle.rfcvalues.specs.RuleSketches.{rule_sketched}
use Rattle.rfcvalues.proofs.run.has_same_names.Given as goal

abbrev pub invariant-loop-rule : goal.invariant-loop-rule
invariant-loop-rule l = record {
  folds : l.names.names ≡ Fold;
  known : names_of l.names ≡ map (λ rule. rule.name.items) (take l.rule-index l.rules);
  apart : has_same_names (map rule_sketched (take l.rule-index l.rules)) ≡ false;
}
