use Rattle.std.proofs.Common.{subst}
use Rattle.abnftexts.specs.TakenRules.{FindsShown, none_found}
use Rattle.abnftexts.specs.declared.gathered.ShownText.{ShownText}
use Rattle.abnftexts.proofs.RulesTakenLemmas.{found-in_all, found-next}
use Rattle.abnftexts.proofs.taken.found_texts.Goals as goal

pub loop-text-init : goal.loop-text-init
loop-text-init c = λ lists named shown. rw c.new-all.ensures.items none_found

pub loop-text-preserved : goal.loop-text-preserved
loop-text-preserved c = λ lists named shown.
    found-next lists named c.args.texts.now c.loop-text.text-index c.text-item.result c.in_ok-found.found
    c.loop-text.all.items c.push.new.self.items shown c.loop-text-test.true
    (subst (λ (t : ShownText). FindsShown t c.in_ok-found.found) c.text-item.is c.in_ok-found.ensures)
    (c.loop-text.invariant lists named shown) c.in_ok-push.ensures.items

pub returns : goal.returns
returns c = λ lists named shown.
    found-in_all lists named c.args.texts.now c.loop-text.text-index c.loop-text.all.items shown c.loop-text-test.false
    (c.loop-text.invariant lists named shown)
