use Rattle.std.proofs.Common.{◌≡◌, ◌++◌, drop, map}
use Rattle.rfcvalues.specs.GroundedNeeds.{value_marks}
use Rattle.rfcvalues.specs.RuleSketches.{rule_sketched}
use Rattle.rfcvalues.proofs.run.are_values.Given as goal

-- the marks of the rules to come complete those so far
abbrev pub invariant-loop-rule : goal.invariant-loop-rule
invariant-loop-rule l = l.values.items ++ value_marks (map rule_sketched (drop l.rule-index l.rules)) l.left
    ≡ value_marks (map rule_sketched l.rules) l.initial.left
