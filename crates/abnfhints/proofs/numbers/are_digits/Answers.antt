-- All are digits if nothing stands after these.
use Rattle.abnfhints.proofs.IsReversedLemmas.{reported_digits}
use Rattle.abnfhints.proofs.numbers.are_digits.Goals as goal

pub returns-then-not-is_empty : goal.returns-then-not-is_empty
returns-then-not-is_empty c = reported_digits c.args.base c.args.text.now c.after_digits.result.now _ _
    c.is_empty.ensures
    c.if-not-is_empty.true c.is_empty-then-not-is_empty.ensures c.after_digits.ensures.run c.after_digits.ensures.all
