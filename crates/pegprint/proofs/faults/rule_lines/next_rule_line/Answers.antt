use Rattle.std.proofs.Common.{◌+◌, ◌∙◌, sym}
use Rattle.pegprint.proofs.PegAllFaultLemmas.{one-passed}
use Rattle.pegprint.specs.PegRuleLines.{goes_next}
use Rattle.pegprint.proofs.faults.rule_lines.next_rule_line.Goals as goal

pub loop-at-preserved : goal.loop-at-preserved
loop-at-preserved c = one-passed (goes_next c.args.text.now c.args.most c.args.start c.args.ahead) (c.args.start + 1)
    c.loop-at.at c.loop-at.invariant (sym c.is_next.ensures ∙ c.if-is_next.false)
