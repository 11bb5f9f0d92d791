-- The digits before the mark.
use Rattle.std.proofs.Common.{refl}
use Rattle.abnfread.proofs.ByteRunLemmas.{run-shorter}
use Rattle.abnfhints.proofs.IsReversedLemmas.{first_cut, no_mark, not_digits}
use Rattle.abnfhints.proofs.ReportedFirstLemmas.{piece_same}
use Rattle.abnfhints.proofs.numbers.ends_of.Goals as goal
use Rattle.abnfhints.proofs.numbers.ends_of.Goals.{else-are_digits-via-then-are_digits+else-are_digits-2}
use Rattle.abnfhints.proofs.numbers.ends_of.Goals.{else-are_digits-via-else-are_digits}

pub slice_bounds-low-count : goal.slice_bounds-low-count
slice_bounds-low-count c = run-shorter c.after_digits-rest.ensures.run

pub returns-in_default : goal.returns-in_default
returns-in_default c = no_mark c.args.base c.args.mark c.args.digits.now c.after_digits-rest.result.now c.requires
    c.after_digits-rest.ensures.run c.after_digits-rest.ensures.all c.in_default.ensures

pub returns-then-are_digits-2 : goal.returns-then-are_digits-2
returns-then-are_digits-2 c = (
  piece_same _ _ _ _ (first_cut c.args.base c.args.mark c.args.digits.now c.after_digits-rest.result.now c.requires
      c.after_digits-rest.ensures.run c.after_digits-rest.ensures.all) c.in-Some.ensures,
  c.if-are_digits.ensures.0 refl,
  c.if-are_digits-2.ensures.0 refl,
)

pub returns-else-are_digits : goal.returns-else-are_digits
returns-else-are_digits c = not_digits c.args.base c.args.mark c.args.digits.now c.after_digits-rest.result.now
    c.requires c.after_digits-rest.ensures.run c.after_digits-rest.ensures.all c.in-Some.high.now c.in-Some.ensures
    (λ d f. elim c.else-are_digits.branch [
      | else-are_digits-via-then-are_digits+else-are_digits-2 w ↦
          (let on = w.are_digits-then-are_digits.ensures.1 f in let off = w.if-are_digits-2.false in
          absurd (cc (on, off)))
      | else-are_digits-via-else-are_digits w ↦
          (let on = c.are_digits.ensures.1 d in let off = w.if-are_digits.false in absurd (cc (on, off)))
    ])
