-- A zero fewer.
use Rattle.std.proofs.Common.{ap, sym, ◌∙◌, subst}
use Rattle.std.specs.Str.Parse.{AllDigits, digits_value}
use Rattle.abnfhints.proofs.DigitsValueLemmas.{value-zero}
use Rattle.abnfhints.proofs.numbers.without_zeros.Goals as goal

pub loop-tail-preserved : goal.loop-tail-preserved
loop-tail-preserved c = record {
  value = λ base. sym (value-zero base c.in-Some.tail.now) ∙ ap (digits_value base) (sym c.in-Some.ensures)
      ∙ c.loop-tail.invariant.value base;
  all = λ base d. (subst (AllDigits base) c.in-Some.ensures (c.loop-tail.invariant.all base d)).1;
}
