use Rattle.flatgrammar.proofs.TargetLemmas as o
use Rattle.flatgrammar.proofs.targets.first_ways.Goals as goal

pub loop-s-init : goal.loop-s-init
loop-s-init c = o.first_none _ _ c.new-ways.ensures.items

pub loop-s-preserved : goal.loop-s-preserved
loop-s-preserved c = rw (c.in_ok-push.ensures.items, c.first_way.ensures)
    (o.first_next _ _ _ _ _ _ c.loop-s-test.true c.index-nodes-s.is c.loop-s.invariant)
