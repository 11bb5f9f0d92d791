use Rattle.matchfailure.proofs.FarthestWithinLemmas.{all_within, position_within}
use Rattle.matchfailure.proofs.farthest.laws.farthest_is_within.Goals as goal

pub returns-clause-position : goal.returns-clause-position
returns-clause-position c rules start nodes bodies ranks x f vs sound far =
    position_within rules start nodes bodies ranks x sound f vs far

pub returns-clause-expected : goal.returns-clause-expected
returns-clause-expected c rules start nodes bodies ranks x f vs sound far =
    all_within rules start nodes bodies ranks x sound f vs far
