-- No symbol so far may stand in a line.
use Rattle.std.proofs.Common.{◌≡◌, ℕ, ◌+◌, ◌<◌, ◌≤◌, false}
use Rattle.coverlines.specs.Shortest.{may}
use Rattle.coverlines.proofs.bounds.LineBounds.last_between.Given as goal

abbrev pub invariant-loop-back : goal.invariant-loop-back
invariant-loop-back l = (d : ℕ) → d ≤ l.end → l.end < d + l.back → may l.self d ≡ false
