-- The first digits that differ decide.
use Rattle.std.proofs.Common.{◌≡◌, below_more, arith, sym, ◌∙◌}
use Rattle.std.specs.Str.Parse.{digits_value}
use Rattle.abnfhints.proofs.DigitsValueLemmas.{above-reported, none-differ}
use Rattle.abnfhints.proofs.numbers.is_above_by_digits.Goals as goal

pub returns-then-low-high : goal.returns-then-low-high
returns-then-low-high c = λ base d f. above-reported base c.loop-i.i c.digit-low.result c.digit-high.result
    c.args.low.now
    c.args.high.now c.requires c.loop-i-test.true c.loop-i.invariant d f c.digit-low.ensures c.digit-high.ensures
    c.if-low-high.true

pub loop-i-preserved : goal.loop-i-preserved
loop-i-preserved c = below_more _ _ c.loop-i.invariant
    (sym c.digit-low.ensures ∙ c.if-low-high.false ∙ c.digit-high.ensures)

pub returns : goal.returns
returns c = λ base d f.
    let same : digits_value base c.args.low.now ≡ digits_value base c.args.high.now =
    none-differ base c.args.low.now c.args.high.now c.requires
    (λ k h. let done = c.loop-i-test.false in c.loop-i.invariant k (omega (arith, h, done))) in
    ((λ on. absurd (cc on)), (λ less. absurd (omega (arith, same, less))))
