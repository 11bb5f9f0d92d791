use Rattle.matchfailure.proofs.LongerFarthestLemmas.{far_on_longer, none_on_longer}
use Rattle.matchfailure.proofs.farthest.laws.same_on_longer.Goals as goal

pub returns-clause-far : goal.returns-clause-far
returns-clause-far c rules start nodes bodies ranks x y k f o vs sound gives less far =
    far_on_longer rules start nodes bodies ranks sound x y k o gives less f vs far

pub returns-clause-none : goal.returns-clause-none
returns-clause-none c rules start nodes bodies ranks x y k o sound gives less none =
    none_on_longer rules start nodes bodies ranks sound x y k o gives less none
