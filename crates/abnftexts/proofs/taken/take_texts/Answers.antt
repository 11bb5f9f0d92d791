use Rattle.std.proofs.Common.{◌≡◌, ◌∙◌, List, Option, arith, length, map}
use Rattle.std.proofs.lemmas.List.{length-map}
use Rattle.abnftexts.specs.RulesGathered.{NamedText, rules_gathered}
use Rattle.abnftexts.specs.ShownTexts.{AreShown}
use Rattle.abnftexts.specs.TakenRules.{rule_count, text_found}
use Rattle.abnftexts.specs.TextRules.{GiveTexts}
use Rattle.rfcforms.specs.declared.lists.written.ListForm.{ListForm}
use Rattle.rfcvalues.specs.RuleSketches.{rule_sketched}
use Rattle.abnftexts.proofs.JoinedGrammarLemmas.{ok-more}
use Rattle.abnftexts.proofs.RulesTakenLemmas.{find-texts, sketch-count}
use Rattle.abnftexts.proofs.taken.take_texts.Goals as goal

pub returns : goal.returns
returns c =
    let all = c.in_ok-all.all.items in
    let own = c.in_ok-sketches.sketches.items in
    let marks = c.in_ok-values.values.items in
    let sketches = rw c.deref.ensures.value at c.in_ok-sketches.ensures in
    let values = rw c.deref-2.ensures.value at c.in_ok-values.ensures in
    let gives = rw (c.deref-3.ensures.value, c.deref-4.ensures.value, c.deref-5.ensures.value) at c.take_all.ensures in
    let size : rule_count all ≡ length own = sketch-count sketches ∙ length-map own rule_sketched in
    let count : length marks ≡ length own = values.count ∙ length-map own rule_sketched in
    ok-more _ (λ gathered. (lists : Option ListForm) (named : List NamedText) → AreShown lists named c.args.texts.now
    → GiveTexts lists named (rules_gathered gathered)) c.take_all.result (λ gathered given lists named shown.
    let found = c.in_ok-all.ensures lists named shown in
    record {
      there = map text_found all;
      finds = find-texts found;
      sketches = map rule_sketched own;
      are_sketches = sketches;
      marks = marks;
      are_values = values;
      gives = given lists named found (omega (arith, size)) (omega (arith, size, count));
    }) gives
