use Rattle.pegread.proofs.CharFormLemmas.{no_digit-nothing, no_digit-begins, digit-begins, octal-here}
use Rattle.pegread.proofs.escape.next_octal.Goals as goal

pub returns-in_err-first : goal.returns-in_err-first
returns-in_err-first c = rw (c.from_residual.ensures) (no_digit-nothing _ c.in_err-first.ensures.cases)

pub returns-in_err-value : goal.returns-in_err-value
returns-in_err-value c = rw (c.from_residual-in_err-value.ensures)
    (no_digit-begins c.in_ok-first.ensures.cases.0 c.in_err-value.ensures)

pub returns : goal.returns
returns c = (
  c.in_ok-value.ensures.1,
  digit-begins c.in_ok-first.ensures.cases.0 (octal-here _ _ c.in_ok-value.ensures.0
      c.in_ok-value.ensures.1),
)
