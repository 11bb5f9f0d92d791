use Rattle.abnfread.specs.AbnfSlices.{values, no_dot}
use Rattle.abnfread.proofs.ByteRunLemmas.{numbers-range, range-longest, dash-longest, dotted-longest}
use Rattle.abnfread.proofs.scan.after_numbers.Goals as goal

pub returns-in-Some-after_digits : goal.returns-in-Some-after_digits
returns-in-Some-after_digits c =
    let d = c.in_ok-rest.ensures in
    let k = c.in-Some-after_digits.ensures in
    (numbers-range d.0 c.in-Some.ensures k.0, λ s h. range-longest c.requires d.0 d.1 c.in-Some.ensures k.0 k.1 h)

pub returns-in-None-after_digits : goal.returns-in-None-after_digits
returns-in-None-after_digits c =
    let d = c.in_ok-rest.ensures in
    (values d.0 no_dot, λ s h. dash-longest c.requires d.0 d.1 c.in-Some.ensures c.in-None-after_digits.ensures h)

pub returns-in-None : goal.returns-in-None
returns-in-None c =
    let d = c.in_ok-rest.ensures in (
      values d.0 c.after_dotted.ensures.dotted,
      λ s h. dotted-longest c.requires d.0 d.1 c.in-None.ensures c.after_dotted.ensures.dotted
          c.after_dotted.ensures.longest h,
    )
