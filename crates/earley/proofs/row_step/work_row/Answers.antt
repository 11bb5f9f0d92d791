use Rattle.std.proofs.Common.{length, sym, ◌∙◌}
use Rattle.std.proofs.lemmas.List.{length-map}
use Rattle.earley.specs.RowCharts.{row_views}
use Rattle.earley.specs.RowItems.{row_items}
use Rattle.earley.proofs.RowStepLemmas.{work_all}
use Rattle.earley.proofs.row_step.work_row.Goals as goal

pub returns : goal.returns
returns c = work_all c.args.table.now.flat.value c.args.table.now.dots.items c.args.position c.args.row.now
    (row_views c.args.table.now.dots.items c.args.filled.now.sets.items) (length c.args.filled.now.sets.items)
    c.args.set.now
    c.predict_row.new.set c.advance_row.new.set c.complete_row.new.set
    (sym (length-map c.args.filled.now.sets.items (λ s. row_items c.args.table.now.dots.items s.rows.items)))
    (c.in_ok-predict_row.ensures c.args.row.now c.requires.some.0 (length c.args.filled.now.sets.items)
    c.requires.some.1 c.requires.here) c.in_ok-advance_row.ensures
    c.in_ok-complete_row.ensures

pub advance_row-requires-clause-count : goal.advance_row-requires-clause-count
advance_row-requires-clause-count c =
    (c.in_ok-predict_row.ensures c.args.row.now c.requires.some.0 (length c.args.filled.now.sets.items)
    c.requires.some.1 c.requires.here).count ∙ c.requires.count

pub complete_row-requires-clause-count : goal.complete_row-requires-clause-count
complete_row-requires-clause-count c = c.in_ok-advance_row.ensures.count
    ∙ ((c.in_ok-predict_row.ensures c.args.row.now c.requires.some.0 (length c.args.filled.now.sets.items)
    c.requires.some.1 c.requires.here).count ∙ c.requires.count)
