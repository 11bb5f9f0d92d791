use Rattle.std.proofs.Common.{arith}
use Rattle.flatgrammar.proofs.WalkLemmas as o
use Rattle.flatgrammar.proofs.targets.settle_all.Goals as goal

pub loop-start-init : goal.loop-start-init
loop-start-init c = (o.ways_same _, λ s lt. absurd (omega (arith, lt)))

pub loop-start-preserved : goal.loop-start-preserved
loop-start-preserved c = (
  o.ways_on _ _ _ c.loop-start.invariant.0 c.in_ok-settle.ensures.ways,
  o.settled_more _ _ _ _ c.loop-start.invariant.0 c.loop-start.invariant.1 c.in_ok-settle.ensures,
)
