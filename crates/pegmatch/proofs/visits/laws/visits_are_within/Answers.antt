use Rattle.pegmatch.proofs.AsksLemmas.{visited_there}
use Rattle.pegmatch.proofs.visits.laws.visits_are_within.Goals as goal

pub returns : goal.returns
returns c = λ rules start nodes bodies ranks x sound n p v. visited_there rules start nodes bodies ranks x sound n p v
