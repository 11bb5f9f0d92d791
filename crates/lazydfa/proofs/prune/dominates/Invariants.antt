use Rattle.std.proofs.Common.{◌≤◌, length}
use Rattle.flatgrammar.specs.NodeSteps.{flat_of}
use Rattle.lazydfa.specs.Conts.{stack_of}
use Rattle.lazydfa.specs.Domination.{Dominates}
use Rattle.lazydfa.proofs.prune.dominates.Given as goal

abbrev pub invariant-loop : goal.invariant-loop
invariant-loop l = (l.id ≤ length l.conts.items.items) × (l.other ≤ length l.conts.items.items)
    × (Dominates (flat_of l.tables) (stack_of l.conts.items.items l.id) (stack_of l.conts.items.items l.other)
    → Dominates (flat_of l.tables) (stack_of l.conts.items.items l.over) (stack_of l.conts.items.items l.under))
