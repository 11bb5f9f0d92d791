use Rattle.std.proofs.Common.{◌≡◌, map, take}
use Rattle.pegread.specs.PegViews.{rules_of}
use Rattle.pegexplain.specs.BodyLeaves.{lone_ends}
use Rattle.pegexplain.specs.CodeLeaves.{rule_leaf_found}
use Rattle.pegexplain.proofs.hints.ends.lone_ends.Given as goal

abbrev pub invariant-loop-id : goal.invariant-loop-id
invariant-loop-id l = map rule_leaf_found l.found.items ≡ lone_ends (take l.id (rules_of l.rules))
