use Rattle.std.proofs.Common.{◌∙◌, ap}
use Rattle.refusedlines.proofs.ReportedTextLemmas.{digit_more, digit_one}
use Rattle.refusedlines.proofs.letterruns.reported_text.+digits.Goals as goal
use Rattle.refusedlines.proofs.letterruns.reported_text.+digits.Goals.{
  then-value-ge16+in_ok-push_digits,
  else-value-ge16,
}

pub returns : goal.returns
returns t c = elim c.if-value-ge16.branch [
  | then-value-ge16+in_ok-push_digits w ↦ digit_more c.args.value c.requires _ _ _ _
      (ap (λ v. v.items) w.out-is ∙ w.in_ok-push_digits.ensures) c.hex_digit.ensures c.in_ok-push.ensures.items
  | else-value-ge16 w ↦ digit_one c.args.value c.requires w.if-value-ge16.false _ _ _ _ (ap (λ v. v.items) w.out-is)
      c.hex_digit.ensures c.in_ok-push.ensures.items
]
