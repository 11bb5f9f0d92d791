use Rattle.earley.proofs.OldDotsLemmas.{all_parts, more_parts, no_parts}
use Rattle.earley.proofs.awaited.parts_of.Goals as goal

pub loop-dot-init : goal.loop-dot-init
loop-dot-init c = no_parts c.args.tables.now c.args.dots.now c.new-parts.result.items c.new-parts.ensures.items

pub loop-dot-preserved : goal.loop-dot-preserved
loop-dot-preserved c =
    more_parts c.args.tables.now c.args.dots.now c.loop-dot.dot-index _ c.loop-dot.parts.items _ c.loop-dot-test.true
    c.loop-dot.invariant c.in_ok-add_part.ensures

pub returns : goal.returns
returns c =
    all_parts c.args.tables.now c.args.dots.now c.loop-dot.dot-index c.loop-dot.parts.items c.loop-dot-test.false
    c.loop-dot.invariant
