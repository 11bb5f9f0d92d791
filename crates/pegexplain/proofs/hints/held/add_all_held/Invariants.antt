use Rattle.std.proofs.Common.{◌≡◌, ◌++◌, map}
use Rattle.pegexplain.specs.CodeLeaves.{held_found, rule_leaf_found}
use Rattle.pegexplain.specs.HeldDefinitions.{held_before}
use Rattle.pegexplain.proofs.hints.held.add_all_held.Given as goal

abbrev pub invariant-loop-at : goal.invariant-loop-at
invariant-loop-at l = map held_found l.found.items ≡ map held_found l.fn.found.items
    ++ held_before (rule_leaf_found l.action) l.template l.at
