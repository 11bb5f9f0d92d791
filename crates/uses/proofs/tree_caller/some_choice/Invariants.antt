use Rattle.std.proofs.Common.{◌≡◌, map, drop}
use Rattle.pegread.specs.PegViews.{rule_of, rules_of}
use Rattle.uses.specs.Choices.{some_choice}
use Rattle.uses.proofs.tree_caller.some_choice.Given as goal

-- no rule before has a choice
abbrev pub invariant-loop-id : goal.invariant-loop-id
invariant-loop-id l = some_choice (rules_of l.peg.rules) ≡ some_choice (map rule_of (drop l.id l.peg.rules.rules))
