-- What is left of the members so far.
use Rattle.std.proofs.Common.{take}
use Rattle.abnfread.specs.AbnfViews.{elements_of}
use Rattle.abnfhints.specs.WithoutLetter.{AreWithout}
use Rattle.abnfhints.proofs.without.+leaving.Given as goal

abbrev pub invariant-all_without-loop-member : goal.invariant-all_without-loop-member
invariant-all_without-loop-member l =
    AreWithout l.letter (elements_of (take l.member-index l.members)) (elements_of l.left.items)
