use Rattle.std.proofs.Common.{ℕ, ◌-◌, ◌<◌, ◌≤◌, length, map}
use Rattle.abnfblocks.specs.TextLines.{numbered}
use Rattle.abnfblocks.specs.FoundRules.{IsAbnfCut}
use Rattle.abnfblocks.proofs.look.shorter_cut.Given as goal

-- no longer cut reads
abbrev pub invariant-loop-size : goal.invariant-loop-size
invariant-loop-size l = record {
  tested : l.size ≤ length l.tests.items;
  less : l.size ≤ l.limit - 1;
  none : (k : ℕ) → l.size < k → k < l.limit → IsAbnfCut (map numbered l.rule) k → ⊥;
}

abbrev pub decreases-loop-size : goal.decreases-loop-size
decreases-loop-size l = l.size
