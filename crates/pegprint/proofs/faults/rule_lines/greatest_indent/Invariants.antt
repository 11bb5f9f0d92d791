use Rattle.std.proofs.Common.{◌≡◌, ℕ, ◌≤◌, ◌<◌, false}
use Rattle.pegprint.specs.PegRuleLines.{is_rule_line}
use Rattle.pegprint.proofs.faults.rule_lines.greatest_indent.Given as goal

abbrev pub invariant-loop-at : goal.invariant-loop-at
invariant-loop-at l = (k : ℕ) → 0 ≤ k → k < l.at → is_rule_line l.text k ≡ false
