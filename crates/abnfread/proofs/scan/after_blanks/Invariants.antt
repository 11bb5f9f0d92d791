use Rattle.std.proofs.Common.{List, ℕ, length}
use Rattle.abnfread.specs.AbnfSlices.{White}
use Rattle.abnfread.proofs.scan.after_blanks.Given as goal

abbrev pub invariant-loop-more : goal.invariant-loop-more
invariant-loop-more l = (r : List ℕ) → White l.rest r → White l.text r

abbrev pub decreases-loop-more : goal.decreases-loop-more
decreases-loop-more l = length l.rest
