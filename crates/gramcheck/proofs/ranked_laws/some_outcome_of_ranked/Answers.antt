use Rattle.gramcheck.proofs.SomeOutcomeLemmas.{evaluation_ends}
use Rattle.gramcheck.proofs.ranked_laws.some_outcome_of_ranked.Goals as goal

pub returns : goal.returns
returns c = λ rules start nodes bodies ranks x n p e sound spelled le.
    let one = evaluation_ends rules start nodes bodies ranks sound x n p e spelled le in
    (one.outcome, one.looked, one.gives)
