use Rattle.std.proofs.Common.{drop}
use Rattle.abnfread.specs.AbnfViews.{elements_of}
use Rattle.abnfcheck.specs.CountsWithin.{AllCountsWithin}
use Rattle.abnfcheck.proofs.counts.+counting.Given as goal

abbrev pub invariant-are_within-loop-member : goal.invariant-are_within-loop-member
invariant-are_within-loop-member l = AllCountsWithin l.limit (elements_of (drop l.member-index l.members))
    → AllCountsWithin l.limit (elements_of l.members)
