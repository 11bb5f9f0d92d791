-- One more digit, or the end.
use Rattle.std.proofs.Common.{◌<◌, arith, lt-ltb}
use Rattle.std.specs.Char.{digit_value}
use Rattle.abnfread.specs.AbnfSlices.{none}
use Rattle.abnfread.proofs.ByteRunLemmas.{run-on}
use Rattle.abnfhints.proofs.numbers.after_digits.Goals as goal

pub loop-first-preserved : goal.loop-first-preserved
loop-first-preserved c = λ r n.
    let less : digit_value c.in-Some.first.now < c.args.base = (let lt = c.if-digit-base.false in
    let is = c.digit.ensures in omega (arith, lt, is)) in
    c.loop-first.invariant r (run-on c.in-Some.ensures.cases.0
    (lt-ltb (digit_value c.in-Some.first.now) c.args.base less)
    n)

pub returns-then-digit-base-clause-run : goal.returns-then-digit-base-clause-run
returns-then-digit-base-clause-run c = c.loop-first.invariant _ none

pub returns-in_default-clause-run : goal.returns-in_default-clause-run
returns-in_default-clause-run c = c.loop-first.invariant _ none
