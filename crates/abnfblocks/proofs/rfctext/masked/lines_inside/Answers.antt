use Rattle.std.proofs.Common.{arith}
use Rattle.abnfblocks.proofs.MaskedLinesLemmas.{inside-more, inside-none}
use Rattle.abnfblocks.proofs.rfctext.masked.lines_inside.Goals as goal

pub loop-count-preserved : goal.loop-count-preserved
loop-count-preserved c =
    let more = inside-more c.args.mark c.args.size c.args.lines.now c.loop-count.count _ c.closing_length.result
    c.loop-count-test.true c.closing_length.ensures c.if-closing_length-size.true in
    record { within = omega arith; same = omega (arith, more, c.loop-count.invariant.same) }

pub returns-else-closing_length-size-clause-count : goal.returns-else-closing_length-size-clause-count
returns-else-closing_length-size-clause-count c =
    let none = inside-none c.args.mark c.args.size c.args.lines.now c.loop-count.count _ c.closing_length.result
    c.loop-count-test.true c.closing_length.ensures c.if-closing_length-size.false in
    omega (arith, none, c.loop-count.invariant.same)
