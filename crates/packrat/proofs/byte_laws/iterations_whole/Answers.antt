use Rattle.packrat.proofs.RunIterationsLemmas.{whole_comes}
use Rattle.packrat.proofs.IterationsGiveLemmas.{whole_repeats, whole_found}
use Rattle.packrat.proofs.byte_laws.iterations_whole.Goals as goal

pub returns-clause-steps : goal.returns-clause-steps
returns-clause-steps r = λ rules start nodes bodies ranks x sound root is marks tails are s k a n c b d at spelled
    iterations.
    whole_comes rules start nodes bodies ranks x sound root is marks tails are s k at spelled b d iterations

pub returns-clause-gives : goal.returns-clause-gives
returns-clause-gives r = λ rules start nodes bodies ranks x sound marks tails s k a n c b d at spelled iterations.
    whole_repeats rules start nodes bodies ranks x sound marks tails s k at spelled b d iterations

pub returns-clause-found : goal.returns-clause-found
returns-clause-found r = λ g x more sound marks tails s k a n c b d at spelled iterations.
    whole_found g x more sound marks tails s k at spelled b d iterations
