-- The parts of a range.
use Rattle.std.proofs.Common.{◌+◌, ◌-◌, ◌∙◌, arith}
use Rattle.abnfread.proofs.ElementLemmas.{element-Alt, element-Range}
use Rattle.abnfhints.specs.WithoutLetter.{keeps_range, cuts_range}
use Rattle.abnfhints.proofs.WithoutLemmas.{splits_at}
use Rattle.abnfhints.proofs.without.range_without.Goals as goal
use Rattle.abnfhints.proofs.without.range_without.Goals.{then-letter-low-via-then-letter-low}
use Rattle.abnfhints.proofs.without.range_without.Goals.{then-letter-low-via-else-letter-low+then-high-letter}

pub returns-then-letter-low : goal.returns-then-letter-low
returns-then-letter-low c = rw element-Range
    (keeps_range {low = c.args.low} {high = c.args.high} (λ from to. elim c.then-letter-low.branch [
      | then-letter-low-via-then-letter-low w ↦ omega (arith, from, to, w.if-letter-low.true, c.from-letter.ensures)
      | then-letter-low-via-else-letter-low+then-high-letter w ↦
          omega (arith, from, to, w.if-high-letter.true, c.from-letter.ensures)
    ]))

pub returns-then-low-letter : goal.returns-then-low-letter
returns-then-low-letter c = rw (element-Range, c.from-letter.ensures)
    (cuts_range (c.if-low-letter.true ∙ c.from-letter.ensures))

pub returns : goal.returns
returns c = rw (
  element-Alt,
  c.in_ok-push-2.ensures.items,
  c.in_ok-push.ensures.items,
  c.new-parts.ensures.items,
  element-Range c.args.low (c.from-letter.result - 1),
  element-Range (c.from-letter.result + 1) c.args.high,
)
    (splits_at c.args.letter c.from-letter.result c.args.low c.args.high c.from-letter.ensures
    (let from = c.if-letter-low.false in let other = c.if-low-letter.false in omega (arith, from, other))
    (let to = c.if-high-letter.false in omega (arith, to)))
