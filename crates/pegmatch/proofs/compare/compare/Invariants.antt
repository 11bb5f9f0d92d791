use Rattle.std.proofs.Common.{◌≡◌, ◌+◌, ◌≤◌, length, drop}
use Rattle.gramcheck.specs.Outcome.{begins_with, compared}
use Rattle.pegmatch.proofs.compare.compare.Given as goal

abbrev pub invariant-loop-i : goal.invariant-loop-i
invariant-loop-i l = record {
  within : l.i ≤ length l.text;
  begins : begins_with l.text l.literal ≡ begins_with (drop l.i l.text) (drop l.i l.literal);
  compared : compared l.text l.literal ≡ l.i + compared (drop l.i l.text) (drop l.i l.literal);
}
