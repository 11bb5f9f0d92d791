use Rattle.std.proofs.Common.{◌≡◌, length, map, take}
use Rattle.fixpoint.specs.Demands.{owned_demands_of}
use Rattle.rfcvalues.specs.GroundedNeeds.{rule_demand}
use Rattle.rfcvalues.specs.RuleSketches.{rule_sketched}
use Rattle.rfcvalues.proofs.grounded.rule_needs.Given as goal

abbrev pub invariant-loop-rule : goal.invariant-loop-rule
invariant-loop-rule l = owned_demands_of l.needs.items
    ≡ map (rule_demand l.lists (length l.rules)) (map rule_sketched (take l.rule-index l.rules))
