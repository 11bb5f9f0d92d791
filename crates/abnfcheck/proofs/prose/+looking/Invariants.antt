-- Whether prose stands in one of the members is decided by those that are left.
use Rattle.std.proofs.Common.{◌≡◌, drop}
use Rattle.abnfread.specs.AbnfViews.{elements_of}
use Rattle.abnfcheck.specs.ProseIn.{prose_in_one}
use Rattle.abnfcheck.proofs.prose.+looking.Given as goal

abbrev pub invariant-one_has_prose-loop-member : goal.invariant-one_has_prose-loop-member
invariant-one_has_prose-loop-member l = prose_in_one (elements_of l.members)
    ≡ prose_in_one (elements_of (drop l.member-index l.members))
