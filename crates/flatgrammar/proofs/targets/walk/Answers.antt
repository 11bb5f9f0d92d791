use Rattle.std.proofs.Common.{None}
use Rattle.flatgrammar.proofs.WalkLemmas as o
use Rattle.flatgrammar.proofs.targets.walk.Goals as goal

pub loop-ways-init : goal.loop-ways-init
loop-ways-init c = o.walk_none _ _ c.requires.start _ c.requires.path

pub loop-ways-smaller : goal.loop-ways-smaller
loop-ways-smaller c = o.ahead_falls c.loop-ways.ways c.loop-ways.s c.in-On.next None
    (o.way_at _ _ _ _ c.loop-ways.invariant.within c.in-On.is)

pub loop-ways-preserved : goal.loop-ways-preserved
loop-ways-preserved c = rw (c.in_ok-push.ensures.items)
    (o.walk_on _ _ _ _ _ _ c.loop-ways.invariant (o.way_at _ _ _ _ c.loop-ways.invariant.within c.in-On.is)
    c.requires.within)

pub returns-clause-found : goal.returns-clause-found
returns-clause-found c = (c.in_default.field-0, o.way_at _ _ _ _ c.loop-ways.invariant.within c.in_default.is)
