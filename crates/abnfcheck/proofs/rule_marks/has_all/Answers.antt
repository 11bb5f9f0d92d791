-- A value that is no letter is found, or there is none.
use Rattle.std.proofs.Common.{◌∙◌, false, refl, sym}
use Rattle.std.proofs.lemmas.Bool.{both_ways}
use Rattle.ruletable.specs.Letters.{has}
use Rattle.abnfcheck.proofs.AimLemmas.{letter_in, next_value}
use Rattle.abnfcheck.proofs.rule_marks.has_all.Goals as goal

pub returns-then-not-has : goal.returns-then-not-has
returns-then-not-has c = (
  (λ on. absurd (both_ways false refl on)),
  (λ all. sym c.if-not-has.true ∙ (c.has.ensures ∙ letter_in (has c.args.alphabet) c.args.values.now
      c.loop-value.value-index 0 c.loop-value-test.true all)),
)

pub loop-value-preserved : goal.loop-value-preserved
loop-value-preserved c =
    next_value (has c.args.alphabet) c.args.values.now c.loop-value.value-index 0 c.loop-value-test.true
    c.loop-value.invariant (sym c.has.ensures ∙ c.if-not-has.false)
