-- One alternative more, and the texts in order.
use Rattle.std.proofs.Common.{List, arith, subst}
use Rattle.std.proofs.lemmas.List.{take_all}
use Rattle.abnfread.specs.AbnfViews.{elements_of}
use Rattle.abnfread.specs.declared.elem.Elem.{Elem}
use Rattle.abnfrun.proofs.FactoredChoicesLemmas.{AreTextsSoFar, no_text_more, text_more, texts_sorted}
use Rattle.abnfrun.proofs.factored.texts_of.Goals as goal
use Rattle.abnfrun.proofs.factored.texts_of.Goals.{in-Some+in_ok-key_of+in_ok-push, in_default}

pub loop-alternative-preserved : goal.loop-alternative-preserved
loop-alternative-preserved c = elim c.match-text_in.branch [
  | in-Some+in_ok-key_of+in_ok-push w ↦ rw w.texts-is
      (text_more c.args.folds c.args.alternatives.now c.loop-alternative.alternative-index c.alternative-item.result
      c.loop-alternative.texts.items w.push.new.self.items w.in_ok-key_of.field-0 w.in-Some.text.now
      c.loop-alternative-test.true c.alternative-item.is w.in-Some.ensures.found w.in_ok-key_of.ensures
      w.in_ok-push.ensures.items c.loop-alternative.invariant)
  | in_default w ↦ rw w.texts-is
      (no_text_more c.args.folds c.args.alternatives.now c.loop-alternative.alternative-index
      c.alternative-item.result c.loop-alternative.texts.items c.loop-alternative-test.true c.alternative-item.is
      w.in_default.ensures.none c.loop-alternative.invariant)
]

pub returns : goal.returns
returns c =
    let past = c.loop-alternative-test.false in
    texts_sorted c.args.folds c.loop-alternative.texts.items c.sort_unstable.new.self.items
    (elements_of c.args.alternatives.now) c.sort_unstable.ensures.permutation
    (subst (λ (es : List Elem). AreTextsSoFar c.args.folds c.loop-alternative.texts.items (elements_of es))
    (take_all c.loop-alternative.alternative-index c.args.alternatives.now (omega (arith, past)))
    c.loop-alternative.invariant)
