use Rattle.std.proofs.Common.{◌≡◌, ℕ, ◌<◌, ◌≤◌, true, false, get_or, Some}
use Rattle.std.specs.Prelude.{slice_get}
use Rattle.matchfailure.proofs.tasks.runs.end_of_run.Given as goal

abbrev pub invariant-loop-end : goal.invariant-loop-end
invariant-loop-end l = record {
  low : l.from ≤ l.end;
  taken : (r : ℕ) → l.from ≤ r → r < l.end → (b : ℕ) × (slice_get l.window r ≡ Some b) × (get_or l.set b false ≡ true);
}
