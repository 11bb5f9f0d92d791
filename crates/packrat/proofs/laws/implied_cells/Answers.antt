use Rattle.packrat.proofs.AreImpliedLemmas.{implied_are_all}
use Rattle.std.proofs.Common.{length}
use Rattle.pegmatch.proofs.AsksLemmas.{visited_there}
use Rattle.packrat.proofs.HasKidsLemmas.{implied_some}
use Rattle.packrat.proofs.SameCellsLemmas.{same_count}
use Rattle.packrat.proofs.laws.implied_cells.Goals as goal

pub returns-clause-every : goal.returns-clause-every
returns-clause-every c = λ rules start nodes bodies ranks x more sound root is marks tails are.
    implied_are_all rules start nodes bodies ranks x more sound root is marks tails are

pub returns-clause-some : goal.returns-clause-some
returns-clause-some c = λ rules start nodes bodies ranks x more sound root is marks tails are o k d enough.
    implied_some rules start nodes bodies ranks x more sound root is marks tails are o k d enough

pub returns-clause-count : goal.returns-clause-count
returns-clause-count c = λ rules start nodes bodies ranks x more sound cs ds.
    same_count rules start nodes bodies ranks x more sound (length x) cs ds
    (λ n p v. (visited_there rules start nodes bodies ranks x sound n p v).1)
