use Rattle.gramcheck.proofs.SomeOutcomeLemmas.{start_gives_one}
use Rattle.gramcheck.proofs.ranked_laws.exactly_one_outcome_of_start.Goals as goal

pub returns : goal.returns
returns c = λ rules start nodes bodies ranks x sound. start_gives_one rules start nodes bodies ranks sound x
