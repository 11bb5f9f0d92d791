-- The copies of the members so far.
use Rattle.std.proofs.Common.{◌≡◌, take}
use Rattle.abnfread.specs.AbnfViews.{elements_of}
use Rattle.abnfcheck.proofs.copies.+copying.Given as goal

abbrev pub invariant-all_copied-loop-member : goal.invariant-all_copied-loop-member
invariant-all_copied-loop-member l = elements_of l.copies.items ≡ elements_of (take l.member-index l.members)
