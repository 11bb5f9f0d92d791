use Rattle.packrat.proofs.RunIterationsLemmas.{iterations_end}
use Rattle.packrat.proofs.byte_laws.iterations_close.Goals as goal

pub returns : goal.returns
returns r = λ rules start nodes bodies ranks x sound root is marks tails are s k a n c at spelled iterations.
    iterations_end rules start nodes bodies ranks x sound root is marks tails are s k at spelled iterations
