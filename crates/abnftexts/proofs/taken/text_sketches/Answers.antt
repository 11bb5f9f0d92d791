use Rattle.std.proofs.Common.{map, subst}
use Rattle.std.proofs.lemmas.List.{take_all}
use Rattle.abnftexts.specs.TakenRules.{AddSketches, text_found, text_rows}
use Rattle.abnftexts.specs.TextRules.{AreSketches, no_sketches, rules_seen}
use Rattle.abnftexts.specs.declared.gathered.FoundText.{FoundText}
use Rattle.rfcvalues.specs.RuleSketches.{rule_sketched}
use Rattle.abnftexts.proofs.RulesTakenLemmas.{text-sketched}
use Rattle.abnftexts.proofs.taken.text_sketches.Goals as goal

pub loop-text-init : goal.loop-text-init
loop-text-init c = rw c.new-sketches.ensures.items no_sketches

pub loop-text-preserved : goal.loop-text-preserved
loop-text-preserved c =
    let old = map rule_sketched c.loop-text.sketches.items in
    let new = map rule_sketched c.push_sketches.new.sketches.items in
    text-sketched c.args.texts.now c.loop-text.text-index c.text-item.result old new c.loop-text-test.true
    c.loop-text.invariant
    (subst (λ (t : FoundText). AddSketches (text_rows t.rows) t.found.items old new) c.text-item.is
    (rw c.deref.ensures.value at c.in_ok-push_sketches.ensures))

pub returns : goal.returns
returns c =
    subst (λ texts. AreSketches (rules_seen (map text_found texts)) (map rule_sketched c.loop-text.sketches.items))
    (take_all c.loop-text.text-index c.args.texts.now c.loop-text-test.false) c.loop-text.invariant
