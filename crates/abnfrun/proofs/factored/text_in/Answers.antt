-- The text is of that kind.
use Rattle.abnfrun.proofs.FactoredRulesLemmas.{text_found}
use Rattle.abnfrun.proofs.factored.text_in.Goals as goal

pub returns-in-Some-clause-found : goal.returns-in-Some-clause-found
returns-in-Some-clause-found c = text_found c.args.e.now c.args.kind c.in-Text.folds c.in-Some.kind c.in-Text.text _
    c.in-Text.is c.in-Some.is c.if-kind-folds.true c.deref.ensures.value
