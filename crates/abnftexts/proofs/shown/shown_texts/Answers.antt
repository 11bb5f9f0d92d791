use Rattle.std.proofs.Common.{[], List, subst, sym}
use Rattle.abnftexts.specs.ShownTexts.{AreShown, none_shown}
use Rattle.abnftexts.specs.declared.gathered.ShownText.{ShownText}
use Rattle.abnftexts.proofs.RulesTakenLemmas.{shown-all, shown-next}
use Rattle.abnftexts.proofs.shown.shown_texts.Goals as goal

pub loop-text-init : goal.loop-text-init
loop-text-init c = subst (λ (xs : List ShownText). AreShown c.args.lists [] xs) (sym c.new-all.ensures.items) none_shown

pub loop-text-preserved : goal.loop-text-preserved
loop-text-preserved c = shown-next c.args.lists c.args.texts.now c.loop-text.text-index _ c.in_ok-shown.shown
    c.loop-text.all.items _ c.loop-text-test.true c.loop-text.invariant c.in_ok-shown.ensures
    c.in_ok-push.ensures.items

pub returns : goal.returns
returns c = shown-all c.args.lists c.args.texts.now c.loop-text.text-index c.loop-text.all.items c.loop-text-test.false
    c.loop-text.invariant
