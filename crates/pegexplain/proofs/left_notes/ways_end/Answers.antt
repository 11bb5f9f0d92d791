-- As many marks are set before the end, or all marks are before it.
use Rattle.std.proofs.Common.{length, arith}
use Rattle.pegexplain.proofs.LeftWithinLemmas.{all-end, many-end}
use Rattle.pegexplain.proofs.left_notes.ways_end.Goals as goal

pub returns-then-count-eq-MAX_WAYS : goal.returns-then-count-eq-MAX_WAYS
returns-then-count-eq-MAX_WAYS c =
    let so_far = c.loop-id.invariant in
    let is = so_far.is in
    let many = c.if-count-eq-MAX_WAYS.true in
    many-end c.args.marks.now c.loop-id.id so_far.early (omega (arith, is, many))

pub returns : goal.returns
returns c =
    let so_far = c.loop-id.invariant in
    all-end c.args.marks.now (length c.args.marks.now) (λ k lt. so_far.early k (omega arith)) (omega arith)
