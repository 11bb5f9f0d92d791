-- By the digits, or by how many there are.
use Rattle.std.proofs.Common.{sym}
use Rattle.abnfhints.proofs.DigitsValueLemmas.{other-lengths}
use Rattle.abnfhints.proofs.numbers.is_above.Goals as goal

pub returns-then-low-high : goal.returns-then-low-high
returns-then-low-high c = λ base w d f.
    let low = c.without_zeros-low.ensures in
    let high = c.without_zeros-high.ensures in
    rw (sym (low.value base), sym (high.value base))
    (c.is_above_by_digits.ensures base (low.digits base d) (high.digits base f))

pub returns-else-low-high : goal.returns-else-low-high
returns-else-low-high c = λ base w d f.
    let low = c.without_zeros-low.ensures in
    let high = c.without_zeros-high.ensures in
    rw (sym (low.value base), sym (high.value base))
    (other-lengths base c.without_zeros-low.result.now c.without_zeros-high.result.now w (low.digits base d)
    (high.digits base f) low.first high.first c.if-low-high.false)
