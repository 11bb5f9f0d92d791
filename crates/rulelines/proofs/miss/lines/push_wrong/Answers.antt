use Rattle.rulelines.specs.MissLists.{item_lines}
use Rattle.rulelines.proofs.MissLinesLemmas.{all_wrong, one_more_wrong}
use Rattle.rulelines.proofs.miss.lines.push_wrong.Goals as goal

pub loop-symbol-preserved : goal.loop-symbol-preserved
loop-symbol-preserved c =
    one_more_wrong c.args.prefix.now c.args.wrong.now c.loop-symbol.symbol-index
    (item_lines c.args.lines.now.items) (item_lines c.loop-symbol.lines.items)
    (item_lines c.push_longer.new.lines.items) c.loop-symbol-test.true c.loop-symbol.invariant
    c.in_ok-push_longer.ensures

pub returns : goal.returns
returns c =
    all_wrong c.args.prefix.now c.args.wrong.now c.loop-symbol.symbol-index (item_lines c.args.lines.now.items)
    (item_lines c.loop-symbol.lines.items) c.loop-symbol-test.false c.loop-symbol.invariant
