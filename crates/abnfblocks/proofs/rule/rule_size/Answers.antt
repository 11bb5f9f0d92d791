use Rattle.std.proofs.Common.{arith, sym, ◌∙◌}
use Rattle.abnfblocks.proofs.RuleCutLemmas.{pair-passes, pair-fails, pairs-left, rule-begun}
use Rattle.abnfblocks.proofs.rule.rule_size.Goals as goal

pub loop-size-init : goal.loop-size-init
loop-size-init c = record {
  some = omega arith;
  within = omega (arith, c.requires);
  same = rule-begun c.args.lines.now _ c.margin-margin_size.result c.requires c.margin-margin_size.ensures.margin;
}

pub loop-size-preserved : goal.loop-size-preserved
loop-size-preserved c =
    let more = pair-passes c.margin-margin_size.result c.args.lines.now c.loop-size.size _ _
    c.loop-size.invariant.some c.loop-size-test.true (sym c.belongs.ensures ∙ c.if-belongs.true) in
    record {
      some = omega arith;
      within = omega (arith, c.loop-size-test.true);
      same = omega (arith, more, c.loop-size.invariant.same);
    }

pub returns-else-belongs-clause-size : goal.returns-else-belongs-clause-size
returns-else-belongs-clause-size c =
    let none = pair-fails c.margin-margin_size.result c.args.lines.now c.loop-size.size _ _
    c.loop-size.invariant.some c.loop-size-test.true (sym c.belongs.ensures ∙ c.if-belongs.false) in
    omega (arith, none, c.loop-size.invariant.same)

pub returns-after-loop-size-clause-size : goal.returns-after-loop-size-clause-size
returns-after-loop-size-clause-size c =
    let none = pairs-left c.margin-margin_size.result c.args.lines.now c.loop-size.size c.loop-size-test.false in
    omega (arith, none, c.loop-size.invariant.same)
