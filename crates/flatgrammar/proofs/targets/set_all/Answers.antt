use Rattle.std.proofs.Common.{rules}
use Rattle.flatgrammar.proofs.WalkLemmas as o
use Rattle.flatgrammar.proofs.targets.set_all.Goals as goal

pub bounds-ways-p : goal.bounds-ways-p
bounds-ways-p c = o.path_within _ _ _ _ _ c.requires c.loop-p-test.true c.loop-p.invariant

pub offset_bounds-ways-p : goal.offset_bounds-ways-p
offset_bounds-ways-p c = let lt = bounds-ways-p c in search (rules, lt)

pub loop-p-preserved : goal.loop-p-preserved
loop-p-preserved c = o.set_next _ _ _ _ _ c.loop-p-test.true c.loop-p.invariant
