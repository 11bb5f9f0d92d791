-- No symbol so far may stand in a line.
use Rattle.std.proofs.Common.{◌≡◌, ℕ, ◌<◌, ◌≤◌, false}
use Rattle.coverlines.specs.Shortest.{may}
use Rattle.coverlines.proofs.bounds.LineBounds.first_between.Given as goal

abbrev pub invariant-loop-symbol : goal.invariant-loop-symbol
invariant-loop-symbol l = (l.low ≤ l.symbol) × ((d : ℕ) → l.low ≤ d → d < l.symbol → may l.self d ≡ false)
