use Rattle.std.proofs.Common.{◌≡◌, ◌++◌, map, take}
use Rattle.fixpoint.specs.Demands.{One, owned_demands_of}
use Rattle.ruletable.specs.Rules.{bodies_of}
use Rattle.rfcvalues.proofs.grounded.push_name_needs.Given as goal

abbrev pub invariant-loop-id : goal.invariant-loop-id
invariant-loop-id l = owned_demands_of l.needs.items
    ≡ owned_demands_of l.initial.needs.items ++ map (λ body. One body.items) (take l.id (bodies_of l.lists))
