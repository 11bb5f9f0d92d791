use Rattle.lazydfa.proofs.IsPrunedLemmas.{ArePrunedTo}
use Rattle.lazydfa.proofs.prune.undominated.Given as goal

abbrev pub invariant-loop-top : goal.invariant-loop-top
invariant-loop-top l = ArePrunedTo l.tables l.conts.items.items l.tops l.top-index l.kept.items
