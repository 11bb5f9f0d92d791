use Rattle.matchfailure.proofs.KeptFailuresLemmas.{is_farthest, none_fails}
use Rattle.matchfailure.proofs.farthest.failures.farthest_of.Goals as goal

pub returns-in-None : goal.returns-in-None
returns-in-None c = λ g window root at failures covered.
    none_fails g window root at _ failures covered c.in-None.is

pub returns-in-Some : goal.returns-in-Some
returns-in-Some c = λ g window root at failures covered.
    is_farthest g window root at _ failures covered _ _ c.in-Some.is c.put_in_order.ensures.ordered
    c.put_in_order.ensures.same
