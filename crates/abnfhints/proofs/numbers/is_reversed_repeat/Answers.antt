-- By the digits of both numbers.
use Rattle.std.proofs.Common.{arith}
use Rattle.abnfhints.proofs.IsReversedLemmas.{all_digits, no_reversed_repeat, reversed_repeat_as}
use Rattle.abnfhints.proofs.numbers.is_reversed_repeat.Goals as goal

pub returns-in-Some : goal.returns-in-Some
returns-in-Some c =
    let r = c.in-Some.ensures in
    reversed_repeat_as c.args.text.now c.in-Some.least.now c.in-Some.most.now c.is_above.result r.0 r.1 r.2
    (c.is_above.ensures 10 (omega arith) (all_digits 10 r.1) (all_digits 10 r.2))

pub returns-in-None : goal.returns-in-None
returns-in-None c = (
  (λ on. absurd (cc on)),
  (λ r. absurd (no_reversed_repeat c.args.text.now c.in-None.ensures r)),
)
