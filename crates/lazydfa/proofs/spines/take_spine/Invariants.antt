use Rattle.std.proofs.Common.{◌≡◌, ◌≤◌, ◌++◌, length}
use Rattle.lazydfa.specs.Conts.{stack_of}
use Rattle.lazydfa.specs.Spines.{positions_of}
use Rattle.lazydfa.proofs.spines.take_spine.Given as goal

abbrev pub invariant-loop : goal.invariant-loop
invariant-loop l = (l.id ≤ length l.conts.items.items)
    × (stack_of l.conts.items.items l.top ≡ positions_of l.spine.items ++ stack_of l.conts.items.items l.id)
