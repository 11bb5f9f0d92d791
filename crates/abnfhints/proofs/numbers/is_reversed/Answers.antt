-- By the digits of both ends.
use Rattle.std.proofs.Common.{arith, refl}
use Rattle.abnfread.proofs.ByteRunLemmas.{no-digit}
use Rattle.abnfhints.proofs.IsReversedLemmas.{all_digits, no_reversed, reversed_as}
use Rattle.abnfhints.proofs.numbers.is_reversed.Goals as goal

pub ends_of-requires : goal.ends_of-requires
ends_of-requires c = let b = c.in-Some.ensures in no-digit c.in-Some.base 45 36 refl b.4

pub returns-in-Some-ends_of : goal.returns-in-Some-ends_of
returns-in-Some-ends_of c =
    let b = c.in-Some.ensures in
    let r = c.in-Some-ends_of.ensures in
    reversed_as c.args.text.now c.in-Some.digits.now c.in-Some.base b.0 b.1 b.2 c.in-Some-ends_of.low.now
    c.in-Some-ends_of.high.now c.is_above.result b.4 r.0 r.1 r.2
    (c.is_above.ensures c.in-Some.base (omega arith) (all_digits c.in-Some.base r.1)
    (all_digits c.in-Some.base r.2))

pub returns-in-None : goal.returns-in-None
returns-in-None c = (
  (λ on. absurd (cc on)),
  (λ r. let b = c.in-Some.ensures in absurd (no_reversed c.args.text.now c.in-Some.digits.now c.in-Some.base b.0 b.1 b.2
      c.in-None.ensures r)),
)
