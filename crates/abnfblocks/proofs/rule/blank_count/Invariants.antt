use Rattle.std.proofs.Common.{◌≡◌, ◌+◌, ◌-◌, ◌≤◌, length, map, drop}
use Rattle.abnfblocks.specs.TextLines.{numbered}
use Rattle.abnfblocks.specs.RuleCuts.{blanks_first}
use Rattle.abnfblocks.proofs.rule.blank_count.Given as goal

abbrev pub invariant-loop-count : goal.invariant-loop-count
invariant-loop-count l = record {
  within : l.count ≤ length l.lines;
  same : l.count + blanks_first (drop l.count (map numbered l.lines)) ≡ blanks_first (map numbered l.lines);
}

abbrev pub decreases-loop-count : goal.decreases-loop-count
decreases-loop-count l = length l.lines - l.count
