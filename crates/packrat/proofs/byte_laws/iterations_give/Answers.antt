use Rattle.packrat.proofs.IterationsGiveLemmas.{iterations_repeat, iterations_found}
use Rattle.packrat.proofs.byte_laws.iterations_give.Goals as goal

pub returns-clause-gives : goal.returns-clause-gives
returns-clause-gives r = λ rules start nodes bodies ranks x sound marks tails s k a n c at spelled iterations.
    iterations_repeat rules start nodes bodies ranks x sound marks tails s k at spelled iterations

pub returns-clause-found : goal.returns-clause-found
returns-clause-found r = λ g x more sound marks tails s k a n c at spelled iterations.
    iterations_found g x more sound marks tails s k at spelled iterations
