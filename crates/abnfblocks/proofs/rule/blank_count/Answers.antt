use Rattle.std.proofs.Common.{arith, sym, ◌∙◌}
use Rattle.abnfblocks.specs.RuleCuts.{is_empty_line}
use Rattle.abnfblocks.proofs.RuleCutLemmas.{one-passes, one-fails}
use Rattle.abnfblocks.proofs.rule.blank_count.Goals as goal

pub loop-count-preserved : goal.loop-count-preserved
loop-count-preserved c =
    let more = one-passes is_empty_line c.args.lines.now c.loop-count.count _ c.loop-count-test.true
    (sym c.is_blank.ensures ∙ c.if-is_blank.true) in
    record { within = omega arith; same = omega (arith, more, c.loop-count.invariant.same) }

pub returns-else-is_blank-clause-count : goal.returns-else-is_blank-clause-count
returns-else-is_blank-clause-count c =
    let none = one-fails is_empty_line c.args.lines.now c.loop-count.count _ c.loop-count-test.true
    (sym c.is_blank.ensures ∙ c.if-is_blank.false) in
    omega (arith, none, c.loop-count.invariant.same)
