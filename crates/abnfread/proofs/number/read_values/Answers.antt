use Rattle.abnfread.proofs.NumeralLemmas.{value-over, value-next, value-shorter}
use Rattle.abnfread.proofs.number.read_values.Goals as goal

pub returns-in-None : goal.returns-in-None
returns-in-None c = λ vs k same.
    value-over c.args.base c.args.limit c.args.text.now c.in-Some.text.now _ _ c.loop-left.values.items c.requires.most
    (rw c.in-Some.is at c.loop-left.invariant) c.split_digits.ensures.cut c.split_digits.ensures.digits
    c.split_digits.ensures.all c.in-None.ensures vs k

pub loop-left-smaller : goal.loop-left-smaller
loop-left-smaller c = rw c.in-Some.is
    (value-shorter c.args.base c.args.limit c.args.text.now c.in-Some.text.now _ _ c.loop-left.values.items
    c.requires.most (rw c.in-Some.is at c.loop-left.invariant) c.split_digits.ensures.cut
    c.split_digits.ensures.digits c.split_digits.ensures.all c.after_byte-left.result c.after_byte-left.ensures)

pub loop-left-preserved : goal.loop-left-preserved
loop-left-preserved c = rw c.in_ok-push-in-Some-number_in.ensures.items
    (value-next c.args.base c.args.limit c.args.text.now c.in-Some.text.now _ _ c.loop-left.values.items c.requires.most
    (rw c.in-Some.is at c.loop-left.invariant) c.split_digits.ensures.cut c.split_digits.ensures.digits
    c.split_digits.ensures.all c.in-Some-number_in.value c.after_byte-left.result c.in-Some-number_in.ensures.0
    c.in-Some-number_in.ensures.1 c.after_byte-left.ensures)
