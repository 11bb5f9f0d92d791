use Rattle.abnfblocks.proofs.MaskedLinesLemmas.{line-pushed, lines-pushed}
use Rattle.abnfblocks.proofs.rfctext.masked.push_lines.Goals as goal

pub loop-line-preserved : goal.loop-line-preserved
loop-line-preserved c = line-pushed c.args.masks c.args.lines.now c.loop-line.line-index _ c.shown_line.result
    c.loop-line.out.items _ _ c.loop-line-test.true c.loop-line.invariant c.in_ok-push.ensures.items
    c.shown_line.ensures

pub returns : goal.returns
returns c = lines-pushed c.args.masks c.args.lines.now c.loop-line.line-index _ _ c.loop-line-test.false
    c.loop-line.invariant
