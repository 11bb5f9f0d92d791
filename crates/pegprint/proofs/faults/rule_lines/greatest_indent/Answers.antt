use Rattle.std.proofs.Common.{◌∙◌, sym, Some, arith}
use Rattle.pegprint.proofs.PegAllFaultLemmas.{one-passed}
use Rattle.pegprint.specs.PegRuleLines.{is_rule_line}
use Rattle.pegprint.proofs.faults.rule_lines.greatest_indent.Goals as goal

pub returns-then-is_rule_line : goal.returns-then-is_rule_line
returns-then-is_rule_line c = record {
  first = Some c.loop-at.at;
  is_first = record {
    low = omega arith;
    high = c.loop-at-test.true;
    holds = sym c.is_rule_line.ensures ∙ c.if-is_rule_line.true;
    first = c.loop-at.invariant;
  };
  is = c.indent.ensures.same;
}

pub loop-at-preserved : goal.loop-at-preserved
loop-at-preserved c = one-passed (is_rule_line c.args.text.now) 0 c.loop-at.at c.loop-at.invariant
    (sym c.is_rule_line.ensures ∙ c.if-is_rule_line.false)
