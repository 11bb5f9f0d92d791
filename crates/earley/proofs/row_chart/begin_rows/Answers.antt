use Rattle.std.proofs.Common.{◌≡◌, ◌+◌, ◌-◌, ◌<◌, length, map, ap, sym, subst, ◌∙◌, arith}
use Rattle.std.proofs.lemmas.Grind.{common_steps}
use Rattle.std.proofs.lemmas.List.{length-map}
use Rattle.earleyitems.proofs.IsBuiltLemmas.{get_is}
use Rattle.earleyitems.specs.ScannedItems.{IsScannedItem}
use Rattle.flatgrammar.proofs.CallOfLemmas.{get_map}
use Rattle.earley.specs.RowCharts.{row_views}
use Rattle.earley.specs.RowItems.{row_items, Gains}
use Rattle.earley.proofs.RowStepLemmas.{begins_first, begins_after, view_at}
use Rattle.earley.proofs.row_chart.begin_rows.Goals as goal

pub returns-then-is_empty : goal.returns-then-is_empty
returns-then-is_empty g c =
    let size = length-map c.args.sets.now (λ s. row_items c.args.table.now.dots.items s.rows.items) in
    let none : length c.args.sets.now ≡ 0 = (let t = c.if-is_empty.true in let e = c.is_empty.ensures in
    grind (arith, common_steps, t, e)) in
    begins_first c.args.table.now.flat.value c.args.table.now.dots.items (map g.L.Letter.number c.args.line.now)
    (row_views c.args.table.now.dots.items c.args.sets.now) c.args.set.now c.start_rows.new.set (size ∙ none)
    c.in_ok-start_rows.ensures

pub returns : goal.returns
returns g c =
    let last = length c.args.sets.now - 1 in
    let some : 0 < length c.args.sets.now = (let t = c.if-is_empty.false in let e = c.is_empty.ensures in
    grind (arith, common_steps, t, e)) in
    let count = length-map c.args.sets.now (λ s. row_items c.args.table.now.dots.items s.rows.items) in
    let size : length (row_views c.args.table.now.dots.items c.args.sets.now) ≡ last + 1 =
    omega (arith, some, count) in
    let low : last < length c.args.sets.now = omega (arith, some) in
    let room = c.requires.length in
    let within : last < length c.args.line.now = omega (arith, some, room) in
    begins_after c.args.table.now.flat.value c.args.table.now.dots.items (map g.L.Letter.number c.args.line.now)
    (row_views c.args.table.now.dots.items c.args.sets.now) c.args.set.now c.scan_rows.new.set last
    (g.L.Letter.number c.index-line-last.result)
    (row_items c.args.table.now.dots.items c.index-sets-last.result.rows.items) size
    (view_at c.args.table.now.dots.items c.args.sets.now last c.index-sets-last.result low c.index-sets-last.is)
    (get_map g.L.Letter.number c.args.line.now last
    (get_is c.args.line.now last c.index-line-last.result within c.index-line-last.is))
    (subst (λ v. Gains c.args.table.now.dots.items (IsScannedItem c.args.table.now.flat.value v
    (row_items c.args.table.now.dots.items c.index-sets-last.result.rows.items)) c.args.set.now c.scan_rows.new.set)
    c.value.ensures.number
    (subst (λ v. Gains c.args.table.now.dots.items (IsScannedItem c.args.table.now.flat.value c.value.result
    (row_items c.args.table.now.dots.items v)) c.args.set.now c.scan_rows.new.set)
    (c.deref.ensures.value ∙ ap (λ v. v.rows.items) (sym c.index-sets-last.is)) c.in_ok-scan_rows.ensures))
