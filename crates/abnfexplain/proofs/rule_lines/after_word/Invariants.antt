use Rattle.std.proofs.Common.{◌≡◌, length}
use Rattle.abnfexplain.specs.AbnfRuleLines.{past_word}
use Rattle.abnfexplain.proofs.rule_lines.after_word.Given as goal

abbrev pub invariant-loop-first : goal.invariant-loop-first
invariant-loop-first l = past_word l.rest ≡ past_word l.text

abbrev pub decreases-loop-first : goal.decreases-loop-first
decreases-loop-first l = length l.rest
