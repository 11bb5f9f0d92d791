-- The needs of the rules so far.
use Rattle.std.proofs.Common.{◌≡◌, map, take}
use Rattle.fixpoint.specs.Demands.{One, owned_demands_of}
use Rattle.abnfread.specs.AbnfViews.{rules_of}
use Rattle.lowering.specs.MoreMarks.{sources}
use Rattle.lowering.proofs.sources.source_needs.Given as goal

abbrev pub invariant-loop-id : goal.invariant-loop-id
invariant-loop-id l =
    owned_demands_of l.needs.items ≡ map (λ rule. One (sources (rules_of l.rules) rule.body))
    (take l.id (rules_of l.rules))
