-- What ends the rest ends the whole.
use Rattle.std.proofs.Common.{List, ℕ, length}
use Rattle.abnfread.specs.AbnfSlices.{Run}
use Rattle.abnfread.specs.BaseDigits.{is_digit}
use Rattle.abnfhints.proofs.numbers.after_digits.Given as goal

abbrev pub invariant-loop-first : goal.invariant-loop-first
invariant-loop-first l = (r : List ℕ) → Run (is_digit l.base) l.rest r → Run (is_digit l.base) l.text r

abbrev pub decreases-loop-first : goal.decreases-loop-first
decreases-loop-first l = length l.rest
