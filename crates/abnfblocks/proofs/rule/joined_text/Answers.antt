use Rattle.abnfblocks.proofs.LinesTextLemmas.{one-line_more, all-lines}
use Rattle.abnfblocks.proofs.rule.joined_text.Goals as goal

pub loop-line-preserved : goal.loop-line-preserved
loop-line-preserved c = one-line_more c.args.margin_size c.args.lines.now c.loop-line.line-index _
    c.loop-line.text.items c.push_line.new.text.items c.loop-line-test.true c.loop-line.invariant
    c.in_ok-push_line.ensures

pub returns : goal.returns
returns c = all-lines c.args.margin_size c.args.lines.now c.loop-line.line-index _ c.loop-line-test.false
    c.loop-line.invariant
