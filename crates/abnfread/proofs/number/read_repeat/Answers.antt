use Rattle.std.proofs.Common.{rules, refl}
use Rattle.abnfread.proofs.NumeralLemmas.{least-over, most-over, exactly-read, least-read, both-read}
use Rattle.abnfread.proofs.number.read_repeat.Goals as goal

pub returns-in_default : goal.returns-in_default
returns-in_default c =
    λ a b s. (
      refl,
      least-over c.args.limit c.args.slice.now _ _ a b c.split_digits.ensures.cut c.split_digits.ensures.digits
          c.split_digits.ensures.all s c.in_default.ensures,
    )

pub returns-in_default-after_byte : goal.returns-in_default-after_byte
returns-in_default-after_byte c = λ a b s. exactly-read c.args.limit c.args.slice.now _ _ a b c.split_digits.ensures.cut
    c.split_digits.ensures.digits c.split_digits.ensures.all s c.in-Some.least c.in-Some.ensures.0 c.in-Some.ensures.1
    c.in_default-after_byte.ensures

pub returns-then-is_empty : goal.returns-then-is_empty
returns-then-is_empty c = λ a b s. least-read c.args.limit c.args.slice.now _ _ a b c.split_digits.ensures.cut
    c.split_digits.ensures.digits c.split_digits.ensures.all s c.in-Some.least c.in-Some.ensures.0 c.in-Some.ensures.1
    c.in-Some-after_byte.after.now c.in-Some-after_byte.ensures (search rules)

pub returns-in-Some-number_in : goal.returns-in-Some-number_in
returns-in-Some-number_in c = λ a b s. both-read c.args.limit c.args.slice.now _ _ a b c.split_digits.ensures.cut
    c.split_digits.ensures.digits c.split_digits.ensures.all s c.in-Some.least c.in-Some.ensures.0 c.in-Some.ensures.1
    c.in-Some-after_byte.after.now c.in-Some-number_in.most c.in-Some-after_byte.ensures (search rules)
    c.in-Some-number_in.ensures.0 c.in-Some-number_in.ensures.1

pub returns-in-None : goal.returns-in-None
returns-in-None c =
    λ a b s. (
      refl,
      most-over c.args.limit c.args.slice.now _ _ a b c.split_digits.ensures.cut c.split_digits.ensures.digits
          c.split_digits.ensures.all s c.in-Some-after_byte.after.now c.in-Some-after_byte.ensures (search rules)
          c.in-None.ensures,
    )
