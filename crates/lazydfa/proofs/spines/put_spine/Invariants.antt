use Rattle.std.proofs.Common.{◌≡◌, ◌≤◌, ◌++◌, length, vec_len}
use Rattle.lazydfa.specs.Conts.{stack_of, AreKept}
use Rattle.lazydfa.specs.Spines.{positions_of}
use Rattle.lazydfa.proofs.spines.put_spine.Given as goal

abbrev pub invariant-loop-cont : goal.invariant-loop-cont
invariant-loop-cont l = AreKept l.initial.conts.items.items l.conts.items.items
    × (l.id ≤ length l.conts.items.items)
    × (positions_of l.initial.spine.items ++ stack_of l.initial.conts.items.items l.on
    ≡ positions_of l.spine.items ++ stack_of l.conts.items.items l.id)

abbrev pub decreases-loop-cont : goal.decreases-loop-cont
decreases-loop-cont l = vec_len l.spine
