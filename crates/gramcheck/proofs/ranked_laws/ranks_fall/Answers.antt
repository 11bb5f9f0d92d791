use Rattle.gramcheck.proofs.StepsToBodyLemmas.{rank_lower, steps_to}
use Rattle.gramcheck.proofs.ranked_laws.ranks_fall.Goals as goal

pub returns : goal.returns
returns c = λ rules start nodes bodies ranks n m sound step.
    (steps_to rules start nodes bodies ranks sound step, rank_lower rules start nodes bodies ranks sound n m step)
