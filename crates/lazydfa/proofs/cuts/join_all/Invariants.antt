use Rattle.lazydfa.specs.Conts.{AreKept}
use Rattle.lazydfa.proofs.StackCutsLemmas.{AreJoinedTo}
use Rattle.lazydfa.proofs.cuts.join_all.Given as goal

abbrev pub invariant-loop-suffix : goal.invariant-loop-suffix
invariant-loop-suffix l = AreKept l.fn.conts.items.items l.conts.items.items
    × AreJoinedTo l.fn.conts.items.items l.tops l.suffixes l.conts.items.items l.ids.items.items l.joined.items
    l.suffix-index
