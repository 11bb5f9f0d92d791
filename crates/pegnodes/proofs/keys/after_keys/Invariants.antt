use Rattle.std.proofs.Common.{◌≡◌, ℕ, true, false, length, get_or}
use Rattle.pegnodes.specs.KeyNeeds.{IsPassed}
use Rattle.pegnodes.proofs.keys.after_keys.Given as goal

abbrev pub invariant-loop-m : goal.invariant-loop-m
invariant-loop-m l = record {
  count : length l.after.items ≡ l.m;
  passed : (m : ℕ) → get_or l.after.items m true ≡ false → IsPassed l.namers l.singles l.widths m;
}
