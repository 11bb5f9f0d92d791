use Rattle.fixpoint.proofs.FillsLemmas as f
use Rattle.fixpoint.proofs.distances.meet.Goals as goal

pub returns-in_ok-push : goal.returns-in_ok-push
returns-in_ok-push c = rw c.in_ok-push.ensures.items (f.meets_new _ _ _ _ c.requires c.in-None.is)

pub returns-in_default : goal.returns-in_default
returns-in_default c = f.meets_old _ _ _ _ c.requires c.in_default.not-None
