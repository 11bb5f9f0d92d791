use Rattle.matchfailure.proofs.FailingLeafLemmas.{failure_stops}
use Rattle.matchfailure.proofs.farthest.laws.failing_leaf_stops.Goals as goal

pub returns : goal.returns
returns c rules nodes x n p k e s leaf g = failure_stops rules nodes x n p e s k leaf g
