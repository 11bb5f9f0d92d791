use Rattle.fixpoint.proofs.RowsOfLemmas as t
use Rattle.gramcheck.proofs.left.front_of.Goals as goal

pub bounds-nulls-members : goal.bounds-nulls-members
bounds-nulls-members c = t.within_at _ _ _ c.requires c.loop-n-test.true
