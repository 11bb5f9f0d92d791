use Rattle.refusedlines.proofs.letterruns.reported_text.+digits.Given as goal

abbrev pub decreases-push_digits : goal.decreases-push_digits
decreases-push_digits l = l.value
