use Rattle.std.proofs.Common.{sym, ◌∙◌, subst}
use Rattle.earleyitems.specs.Chosen.{callers_of, Calls}
use Rattle.earleyitems.proofs.AreChosenLemmas.{callers_more, chosen_past}
use Rattle.earleyitems.specs.ItemOwners.{AreCallersOwned}
use Rattle.earleyitems.proofs.ItemOwnersLemmas.{callers_push}
use Rattle.earleyitems.proofs.postdot.keep_caller.Goals as goal

pub returns-in_ok-push-in-Some-clause-chosen : goal.returns-in_ok-push-in-Some-clause-chosen
returns-in_ok-push-in-Some-clause-chosen c flat seen is are =
    callers_more flat seen c.args.callers.now.items c.push.new.self.items _ are (sym is ∙ c.in-Some.is)
    c.in_ok-push-in-Some.ensures.items

pub returns-in-None-clause-chosen : goal.returns-in-None-clause-chosen
returns-in-None-clause-chosen c flat seen is are = record {
  chosen = chosen_past (Calls flat) seen (callers_of c.args.callers.now.items) c.args.at.item
      (λ r. let no = sym c.in-None.is ∙ (is ∙ r.2) in absurd cc) are.chosen;
  report = are.report;
}

pub returns-in_ok-push-in-Some-clause-owners : goal.returns-in_ok-push-in-Some-clause-owners
returns-in_ok-push-in-Some-clause-owners c flat rows is are =
    subst (λ v. AreCallersOwned flat rows v) (sym c.in_ok-push-in-Some.ensures.items)
    (callers_push flat rows c.args.callers.now.items _ is are)

pub returns-in-None-clause-owners : goal.returns-in-None-clause-owners
returns-in-None-clause-owners c flat rows is are = are
