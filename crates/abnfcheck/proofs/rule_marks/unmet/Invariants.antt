-- So many needs that are never met.
use Rattle.std.proofs.Common.{◌≡◌, [], replicate}
use Rattle.fixpoint.specs.Demands.{One, owned_demands_of}
use Rattle.abnfcheck.proofs.rule_marks.unmet.Given as goal

abbrev pub invariant-loop : goal.invariant-loop
invariant-loop l = owned_demands_of l.needs.items ≡ replicate l.counter (One [])
