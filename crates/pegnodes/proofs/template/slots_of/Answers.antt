use Rattle.std.proofs.Common.{◌≡◌, arith, ◌+◌, sym, ◌∙◌, refl, subst}
use Rattle.std.specs.Prelude.{slice_range}
use Rattle.pegnodes.proofs.FilledRunLemmas.{AreWord, word_kept, no_word}
use Rattle.pegnodes.proofs.FilledSlotsLemmas.{AreFilled-next, AreFilled-last}
use Rattle.pegnodes.proofs.PutInLemmas.{AreSlots-further}
use Rattle.pegnodes.proofs.template.slots_of.Goals as goal
use Rattle.pegnodes.proofs.template.slots_of.Goals.{then-not-is_word_byte+in_ok-add_slot, else-not-is_word_byte}

pub loop-i-preserved : goal.loop-i-preserved
loop-i-preserved c =
    elim c.if-not-is_word_byte.branch [
      | then-not-is_word_byte+in_ok-add_slot w ↦ record {
        run = omega arith;
        within = omega arith;
        word = rw w.run-is (no_word c.args.text.now (c.loop-i.i + 1));
        order = rw (w.run-is, w.slots-is) (AreSlots-further _ _ c.loop-i.i (c.loop-i.i + 1)
            (w.in_ok-add_slot.ensures.order _ c.loop-i.invariant.order) (omega arith));
        text = rw (w.run-is, w.slots-is) (AreFilled-next _ _ _ _ _ c.loop-i.invariant.run _ _
            c.loop-i.invariant.word c.loop-i.invariant.order w.in_ok-add_slot.ensures c.loop-i.invariant.text
            c.loop-i-test.true c.requires.within (sym c.is_word_byte.ensures ∙ w.if-not-is_word_byte.true));
      }
      | else-not-is_word_byte w ↦ record {
        run = omega arith;
        within = omega arith;
        word = rw w.run-is (word_kept _ _ _ c.loop-i.invariant.run (omega arith) c.loop-i.invariant.word
            (sym c.is_word_byte.ensures ∙ w.if-not-is_word_byte.false));
        order = rw (w.run-is, w.slots-is) c.loop-i.invariant.order;
        text = rw (w.run-is, w.slots-is) c.loop-i.invariant.text;
      }
    ]

pub returns-clause-text : goal.returns-clause-text
returns-clause-text c =
    let end : c.loop-i.i ≡ c.args.to = omega arith in
    λ capture. rw c.shrink_to_fit.ensures.items (AreFilled-last _ _ _ _ _ (omega arith) _ _
    (subst (λ k. AreWord (slice_range c.args.text.now c.loop-i.run k)) end c.loop-i.invariant.word)
    c.loop-i.invariant.order c.in_ok-add_slot-2.ensures c.loop-i.invariant.text refl capture)

pub returns-clause-order : goal.returns-clause-order
returns-clause-order c = rw c.shrink_to_fit.ensures.items
    (c.in_ok-add_slot-2.ensures.order _ c.loop-i.invariant.order)
