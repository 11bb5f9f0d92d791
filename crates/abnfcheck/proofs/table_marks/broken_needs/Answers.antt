-- One more need.
use Rattle.std.proofs.Common.{ap, sym, ◌+◌, ◌∙◌, subst}
use Rattle.std.proofs.lemmas.List.{map-append}
use Rattle.fixpoint.specs.Demands.{demand_of, demands_of}
use Rattle.fixpoint.specs.StepRows.{rows_of}
use Rattle.fixpoint.proofs.RowsOfLemmas.{row_items}
use Rattle.abnfcheck.specs.BrokenNeeds.{AreBrokenNeedsTo, broken_demand}
use Rattle.abnfcheck.proofs.BrokenNeedsLemmas.{needs_next}
use Rattle.abnfcheck.proofs.table_marks.broken_needs.Goals as goal

pub loop-id-preserved : goal.loop-id-preserved
loop-id-preserved c =
    let row = row_items _ _ _ c.loop-id-test.true c.index-rows-id.is ∙ sym c.deref.ensures.value in
    let need = c.broken_need.ensures ∙ ap (λ b. broken_demand b c.deref.result.now) c.has_no_body.ensures
    ∙ ap (broken_demand _) (sym row) in
    subst (λ l. AreBrokenNeedsTo (rows_of c.args.rows.now) c.args.prose.now l (c.loop-id.id + 1))
    (sym (ap demands_of c.in_ok-push.ensures.items ∙ map-append demand_of _ _))
    (needs_next _ _ _ _ (demand_of c.broken_need.result) c.loop-id.invariant need)
