use Rattle.std.proofs.Common.{◌≡◌, ℕ, ◌+◌, ◌≤◌, ◌<◌, false}
use Rattle.abnfexplain.specs.AbnfRuleLines.{goes_next}
use Rattle.abnfexplain.proofs.rule_lines.next_rule_line.Given as goal

abbrev pub invariant-loop-at : goal.invariant-loop-at
invariant-loop-at l = (k : ℕ) → l.start + 1 ≤ k → k < l.at → goes_next l.text l.margin l.start l.ahead k ≡ false
