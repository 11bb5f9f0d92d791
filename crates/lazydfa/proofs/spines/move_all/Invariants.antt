use Rattle.lazydfa.specs.Conts.{AreKept}
use Rattle.lazydfa.proofs.IsMoveOnLemmas.{AreMovedTo}
use Rattle.lazydfa.proofs.spines.move_all.Given as goal

abbrev pub invariant-loop-top : goal.invariant-loop-top
invariant-loop-top l = AreKept l.initial.conts.items.items l.conts.items.items
    × AreMovedTo l.initial.conts.items.items l.tops l.way.off l.conts.items.items l.initial.ids.items l.ids.items
    l.way.on l.top-index
