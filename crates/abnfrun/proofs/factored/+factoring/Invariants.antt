-- The copies of the members so far.
use Rattle.std.proofs.Common.{take}
use Rattle.abnfread.specs.AbnfViews.{elements_of}
use Rattle.abnfrun.specs.FactoredChoices.{AreFactored}
use Rattle.abnfrun.proofs.factored.+factoring.Given as goal

abbrev pub invariant-all_factored-loop-member : goal.invariant-all_factored-loop-member
invariant-all_factored-loop-member l =
    AreFactored l.kind (elements_of (take l.member-index l.members)) (elements_of l.made.items)
