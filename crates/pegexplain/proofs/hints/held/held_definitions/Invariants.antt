use Rattle.std.proofs.Common.{◌≡◌, map, take}
use Rattle.pegread.specs.PegViews.{rules_of}
use Rattle.pegexplain.specs.HeldDefinitions.{held_definitions}
use Rattle.pegexplain.specs.CodeLeaves.{held_found}
use Rattle.pegexplain.proofs.hints.held.held_definitions.Given as goal

abbrev pub invariant-loop-id : goal.invariant-loop-id
invariant-loop-id l = map held_found l.found.items ≡ held_definitions (take l.id (rules_of l.rules))
