use Rattle.std.proofs.Common.{◌≡◌, ◌≤◌, length}
use Rattle.pegprint.specs.PegRuleLines.{past_name}
use Rattle.pegprint.proofs.faults.rule_lines.after_name.Given as goal

abbrev pub invariant-loop-first : goal.invariant-loop-first
invariant-loop-first l = record {
  same : past_name l.rest ≡ past_name l.text;
  within : length l.rest ≤ length l.text;
}

abbrev pub decreases-loop-first : goal.decreases-loop-first
decreases-loop-first l = length l.rest
