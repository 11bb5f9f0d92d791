-- One more row.
use Rattle.std.proofs.Common.{arith, subst, sym, ◌∙◌, Contains}
use Rattle.fixpoint.specs.StepRows.{rows_of}
use Rattle.fixpoint.proofs.RowsOfLemmas.{row_items, length-rows}
use Rattle.abnfcheck.proofs.NameMarksLemmas.{targets_next}
use Rattle.abnfcheck.proofs.name_marks.mark_targets.Goals as goal

pub mark-requires : goal.mark-requires
mark-requires c = λ m h.
    let row = row_items _ _ _ c.loop-row-test.true c.row-item.is ∙ sym c.deref.ensures.value in
    let lt = c.requires.within.within c.loop-row.row-index m (subst (λ v. Contains v m) (sym row) h) in
    let l = length-rows c.args.rows.now in
    let k = c.loop-row.invariant.count in
    let n = c.requires.count in
    omega (arith, lt, l, k, n)

pub loop-row-preserved : goal.loop-row-preserved
loop-row-preserved c =
    let row = row_items _ _ _ c.loop-row-test.true c.row-item.is ∙ sym c.deref.ensures.value in
    record {
      count = c.mark.ensures.count ∙ c.loop-row.invariant.count;
      marks = targets_next (rows_of c.args.rows.now) c.loop-row.row-index c.deref.result.now _ _ _ row
          c.loop-row.invariant.marks c.mark.ensures;
    }
