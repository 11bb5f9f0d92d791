use Rattle.packrat.proofs.RunIterationsLemmas.{iterations_come}
use Rattle.packrat.proofs.byte_laws.iterations_run.Goals as goal

pub returns : goal.returns
returns r = λ rules start nodes bodies ranks x sound root is marks tails are s k a n c at spelled iterations.
    iterations_come rules start nodes bodies ranks x sound root is marks tails are s k at spelled iterations
