use Rattle.std.proofs.Common.{◌+◌, ℕ, [], length, take, slice_index_or, refl, subst, sym, ap, ◌∙◌, arith}
use Rattle.std.proofs.lemmas.List.Sums.{sum_by_more}
use Rattle.std.specs.List.{sum_by}
use Rattle.std.specs.List.Sorted.{IsStrictlyIncreasing}
use Rattle.earleyitems.proofs.ExpandLemmas.{take_past}
use Rattle.earley.proofs.RowItemsLemmas.{length_row_items, one_more_ascends, past_ascends}
use Rattle.earley.proofs.row_sets.kept_rows.Goals as goal

pub loop-row-init : goal.loop-row-init
loop-row-init c = record { size = refl; ascend = λ p lt. absurd (omega (arith, lt)) }

pub loop-row-preserved : goal.loop-row-preserved
loop-row-preserved c = record {
  size = c.in-Some.ensures.1 ∙ (ap (λ v. v + c.len.result) c.loop-row.invariant.size
      ∙ (ap (λ v. sum_by (λ row. length row) (take c.loop-row.row-index c.deref-row-items.result.now) + v)
      (c.len.ensures.count ∙ ap (λ v. length v) c.row-item.is)
      ∙ sym (sum_by_more (λ row. length row) c.deref-row-items.result.now c.loop-row.row-index c.row-item.result
      c.loop-row-test.true)));
  ascend = one_more_ascends c.deref-row-items.result.now c.loop-row.row-index c.row-item.result
      c.loop-row.invariant.ascend c.loop-row-test.true
      (subst (λ v. IsStrictlyIncreasing v) c.row-item.is c.len.ensures.ascend);
}

pub returns-clause-size : goal.returns-clause-size
returns-clause-size c dots same = c.loop-row.invariant.size
    ∙ (ap (λ v. sum_by (λ row. length row) v)
    (take_past c.deref-row-items.result.now c.loop-row.row-index c.loop-row-test.false
    ∙ c.deref-row-items.ensures.value)
    ∙ sym (length_row_items dots c.into_rows-rows.result.items
    (same ∙ ap (λ v. length v) (sym c.into_rows-rows.ensures))))

pub returns-clause-ascend : goal.returns-clause-ascend
returns-clause-ascend c = subst (λ v. (p : ℕ) → IsStrictlyIncreasing (slice_index_or v p []))
    c.deref-row-items.ensures.value
    (past_ascends c.deref-row-items.result.now c.loop-row.row-index c.loop-row.invariant.ascend c.loop-row-test.false)
