use Rattle.std.proofs.Common.{false}
use Rattle.packrat.proofs.BegunLemmas.{held_good, begun_in_cells}
use Rattle.packrat.proofs.laws.steps_hold.Goals as goal

pub returns-clause-good : goal.returns-clause-good
returns-clause-good c = λ rules start nodes bodies ranks x sound root is marks tails are.
    held_good rules start nodes bodies ranks x false sound root is marks tails are

pub returns-clause-begun : goal.returns-clause-begun
returns-clause-begun c = λ rules start nodes bodies ranks x more sound root is marks tails are.
    begun_in_cells rules start nodes bodies ranks x more sound root is marks tails are
