use Rattle.std.proofs.Common.{◌≡◌, ℕ, ◌+◌, ◌<◌, ◌≤◌, length}
use Rattle.std.specs.Prelude.{slice_get}
use Rattle.matchfailure.proofs.farthest.stop.agreed.Given as goal

abbrev pub invariant-loop-i : goal.invariant-loop-i
invariant-loop-i l = record {
  inside : l.position + l.i ≤ length l.window;
  agree : (j : ℕ) → j < l.i → slice_get l.window (l.position + j) ≡ slice_get l.literal j;
}
