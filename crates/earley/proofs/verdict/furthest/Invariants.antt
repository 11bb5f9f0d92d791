use Rattle.std.proofs.Common.{◌≡◌, ◌<◌, ◌≤◌, ℕ, length}
use Rattle.earleyitems.specs.ChartSets.{set_at}
use Rattle.earley.proofs.verdict.furthest.Given as goal

-- the sets after the one that is looked at are empty
abbrev pub invariant-loop-last : goal.invariant-loop-last
invariant-loop-last l = (l.last ≤ l.end) × ((m : ℕ) → l.last < m → m ≤ l.end → length (set_at l.chart m) ≡ 0)

abbrev pub decreases-loop-last : goal.decreases-loop-last
decreases-loop-last l = l.last
