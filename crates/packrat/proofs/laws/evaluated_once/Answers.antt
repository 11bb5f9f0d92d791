use Rattle.packrat.proofs.EvaluatesLemmas.{evaluated_stores, evaluated_begins}
use Rattle.packrat.proofs.laws.evaluated_once.Goals as goal

pub returns-clause-stored : goal.returns-clause-stored
returns-clause-stored c = λ rules start nodes bodies ranks x more sound root is marks tails are.
    evaluated_stores rules start nodes bodies ranks x more sound root is marks tails are

pub returns-clause-begun : goal.returns-clause-begun
returns-clause-begun c = λ rules start nodes bodies ranks x more sound root is marks tails are stored begun run o k d e.
    evaluated_begins rules start nodes bodies ranks x more sound root is marks tails are o k d e stored begun run
