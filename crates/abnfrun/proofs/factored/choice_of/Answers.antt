-- All alternatives, or the choice of the texts and the others.
use Rattle.abnfrun.proofs.FactoredChoicesLemmas.{same_these}
use Rattle.abnfrun.proofs.FactoredRulesLemmas.{alt_made, choice_made}
use Rattle.abnfrun.proofs.factored.choice_of.Goals as goal

pub returns-in_default : goal.returns-in_default
returns-in_default c = alt_made c.args.kind c.args.alternatives.now c.args.others c.in_default.is c.requires

pub returns : goal.returns
returns c =
    choice_made c.args.kind c.in-Some.folds c.args.alternatives.now c.args.others c.in_ok-branches.field-0 _ _
    c.push-2.new.self c.in-Some.is c.requires
    (same_these c.in_ok-texts.ensures (rw c.deref.ensures.value at c.in_ok-branches.ensures.derives))
    c.new-members.ensures.items c.in_ok-push.ensures.items c.in_ok-push-2.ensures.items
