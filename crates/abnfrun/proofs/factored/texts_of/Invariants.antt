-- The texts of the kind among the alternatives so far.
use Rattle.std.proofs.Common.{take}
use Rattle.abnfread.specs.AbnfViews.{elements_of}
use Rattle.abnfrun.proofs.FactoredChoicesLemmas.{AreTextsSoFar}
use Rattle.abnfrun.proofs.factored.texts_of.Given as goal

abbrev pub invariant-loop-alternative : goal.invariant-loop-alternative
invariant-loop-alternative l =
    AreTextsSoFar l.folds l.texts.items (elements_of (take l.alternative-index l.alternatives))
