use Rattle.lazydfa.proofs.TopDotLemmas.{AreFirstTops}
use Rattle.lazydfa.proofs.expected.dots_of.Given as goal

abbrev pub invariant-loop-top : goal.invariant-loop-top
invariant-loop-top l = AreFirstTops l.conts.items.items l.tops l.top-index l.dots.items
