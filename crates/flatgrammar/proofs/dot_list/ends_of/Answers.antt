use Rattle.flatgrammar.proofs.DotListLemmas.{ends_more}
use Rattle.flatgrammar.proofs.dot_list.ends_of.Goals as goal

pub loop-dot-preserved : goal.loop-dot-preserved
loop-dot-preserved c = ends_more c.args.flat.now c.loop-dot.dot-index c.args.from.now _ c.loop-dot.ends
    c.widened_by-ends.result c.loop-dot-test.true c.widened_by-ends.ensures.wider c.widened_by-ends.ensures.held
    c.loop-dot.invariant
