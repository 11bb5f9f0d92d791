use Rattle.matchfailure.proofs.FailingLeafLemmas.{stop_fails}
use Rattle.matchfailure.proofs.farthest.laws.stops_fail.Goals as goal

pub returns : goal.returns
returns c rules nodes x n p f e s h = stop_fails rules nodes x n p e s f h
