use Rattle.std.proofs.Common.{◌≡◌, ◌+◌, ◌-◌, ◌<◌, ◌≤◌, length, map}
use Rattle.abnfblocks.specs.TextLines.{numbered}
use Rattle.abnfblocks.specs.RuleCuts.{rule_size}
use Rattle.abnfblocks.proofs.RuleCutLemmas.{pairs_from}
use Rattle.abnfblocks.proofs.rule.rule_size.Given as goal

abbrev pub invariant-loop-size : goal.invariant-loop-size
invariant-loop-size l = record {
  some : 0 < l.size;
  within : l.size ≤ length l.lines;
  same : l.size + pairs_from l.margin_size (map numbered l.lines) l.size ≡ rule_size (map numbered l.lines);
}

abbrev pub decreases-loop-size : goal.decreases-loop-size
decreases-loop-size l = length l.lines - l.size
