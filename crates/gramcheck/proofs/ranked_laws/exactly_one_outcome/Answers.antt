use Rattle.gramcheck.proofs.SomeOutcomeLemmas.{gives_one}
use Rattle.gramcheck.proofs.ranked_laws.exactly_one_outcome.Goals as goal

pub returns : goal.returns
returns c = λ rules start nodes bodies ranks x e p sound stands le. gives_one rules start nodes bodies ranks sound x e p
    stands le
