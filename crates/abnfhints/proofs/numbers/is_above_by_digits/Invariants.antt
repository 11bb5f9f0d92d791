-- The digits so far are equal.
use Rattle.std.proofs.Common.{◌≡◌, ℕ, ◌<◌, get_or}
use Rattle.std.specs.Char.{digit_value}
use Rattle.abnfhints.proofs.numbers.is_above_by_digits.Given as goal

abbrev pub invariant-loop-i : goal.invariant-loop-i
invariant-loop-i l = (k : ℕ) → k < l.i → digit_value (get_or l.low k 0) ≡ digit_value (get_or l.high k 0)
