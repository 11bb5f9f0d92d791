use Rattle.std.proofs.Common.{◌+◌, ◌∙◌, sym}
use Rattle.abnfexplain.proofs.AbnfAllFaultLemmas.{one-passed}
use Rattle.abnfexplain.specs.AbnfRuleLines.{goes_next}
use Rattle.abnfexplain.proofs.rule_lines.next_rule_line.Goals as goal

pub loop-at-preserved : goal.loop-at-preserved
loop-at-preserved c = one-passed (goes_next c.args.text.now c.args.margin c.args.start c.args.ahead) (c.args.start + 1)
    c.loop-at.at c.loop-at.invariant (sym c.is_next.ensures ∙ c.if-is_next.false)
