use Rattle.std.proofs.Common.{◌≡◌, ap, refl, length, Some, slice_get, sym, ◌∙◌}
use Rattle.std.proofs.lemmas.List.{length-map}
use Rattle.std.proofs.lemmas.Option.{slice_get-get_or}
use Rattle.earley.specs.RowCharts.{row_views}
use Rattle.earley.specs.RowItems.{row_items}
use Rattle.earley.proofs.RowStepLemmas.{row_completed, not_completed, step_here, one_dot}
use Rattle.earley.proofs.row_step.complete_row.Goals as goal

pub returns-then-index : goal.returns-then-index
returns-then-index c =
    let h = step_here c.args.table.now.flat.value c.args.table.now.dots.items c.args.table.now.steps.items
    c.requires.table.steps c.args.position c.index.result.now c.requires.position c.index.ensures in
    let at = c.index-then-index.result.now in
    let there : slice_get c.args.table.now.dots.items c.args.position ≡ Some at =
    slice_get-get_or c.args.table.now.dots.items c.args.position at c.requires.position
    ∙ ap Some (sym c.index-then-index.ensures) in
    row_completed c.args.table.now.flat.value c.args.table.now.dots.items
    (row_views c.args.table.now.dots.items c.args.filled.now.sets.items) at.node c.args.row.now c.args.set.now
    c.args.position h.at
    h.is
    (ap (λ v. v.node) (one_dot h.is there)) (length c.args.filled.now.sets.items) c.complete_all.new.set
    (sym (length-map c.args.filled.now.sets.items (λ s. row_items c.args.table.now.dots.items s.rows.items)))
    (sym h.reports.done ∙ c.if-index.true) c.in_ok-complete_all.ensures

pub returns : goal.returns
returns c =
    let h = step_here c.args.table.now.flat.value c.args.table.now.dots.items c.args.table.now.steps.items
    c.requires.table.steps c.args.position c.index.result.now c.requires.position c.index.ensures in
    not_completed c.args.table.now.flat.value c.args.table.now.dots.items
    (row_views c.args.table.now.dots.items c.args.filled.now.sets.items) h.at.node c.args.row.now c.args.set.now
    c.args.position h.at
    h.is refl
    (λ done. let is = h.reports.done in let no = c.if-index.false in absurd (cc (is, done, no)))
