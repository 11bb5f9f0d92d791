-- The same number so far.
use Rattle.std.proofs.Common.{◌≡◌, ℕ, length}
use Rattle.std.specs.Str.Parse.{AllDigits, digits_value}
use Rattle.abnfhints.proofs.numbers.without_zeros.Given as goal

abbrev pub invariant-loop-tail : goal.invariant-loop-tail
invariant-loop-tail l = record {
  value : (base : ℕ) → digits_value base l.rest ≡ digits_value base l.digits;
  all : (base : ℕ) → AllDigits base l.digits → AllDigits base l.rest;
}

abbrev pub decreases-loop-tail : goal.decreases-loop-tail
decreases-loop-tail l = length l.rest
