use Rattle.std.proofs.Common.{◌↔◌, ◌<◌, IsTrue, length, map, subst, arith}
use Rattle.std.proofs.lemmas.List.{length-map}
use Rattle.earleyitems.proofs.ChartSetsLemmas.{chart_sets}
use Rattle.earleyitems.proofs.IsBuiltLemmas.{built_exact}
use Rattle.flatgrammar.specs.declared.flat_item.Item.{Item}
use Rattle.earley.specs.RowCharts.{row_views}
use Rattle.earley.specs.RowItems.{row_items, IsRowItem}
use Rattle.earley.proofs.RowChartLemmas.{row_answer}
use Rattle.earley.proofs.RowStepLemmas.{view_at}
use Rattle.earley.proofs.row_chart.judge_by_table.Goals as goal

pub returns-clause-sets : goal.returns-clause-sets
returns-clause-sets g c =
    let x = map g.L.Letter.number c.args.line.now in
    let dots = c.args.table.dots.items in
    let views = length-map c.in_ok-sets.sets.items (λ s. row_items dots s.rows.items) in
    let count = c.in_ok-sets.ensures.count in
    let letters = length-map c.args.line.now g.L.Letter.number in
    chart_sets c.args.table.flat.value x (row_views dots c.in_ok-sets.sets.items)
    (omega (arith, views, count, letters))
    (built_exact c.args.table.flat.value c.requires.exact.targets x (row_views dots c.in_ok-sets.sets.items)
    c.in_ok-sets.ensures.built)

pub returns-clause-answer : goal.returns-clause-answer
returns-clause-answer g c =
    let x = map g.L.Letter.number c.args.line.now in
    let dots = c.args.table.dots.items in
    let kept = c.index.result.now in
    let low : length c.args.line.now < length c.in_ok-sets.sets.items = (let count = c.in_ok-sets.ensures.count in
    omega (arith, count)) in
    let reported = row_answer c.args.table.flat.value c.requires.exact.targets x dots c.in_ok-sets.sets.items kept
    (length c.args.line.now) c.in_ok-sets.ensures.built
    (view_at dots c.in_ok-sets.sets.items (length c.args.line.now) kept low c.index.ensures) in
    let item : Item = record { node = c.deref.result.now.start; step = 1; origin = 0 } in
    let one = subst (λ v. IsTrue c.has_item-yes.result ↔ IsRowItem v c.deref-3.result.now item) c.deref-2.ensures.value
    c.has_item-yes.ensures in
    let two = subst (λ v. IsTrue c.has_item-yes.result ↔ IsRowItem dots v item) c.deref-3.ensures.value one in
    let three = subst (λ f. IsTrue c.has_item-yes.result ↔ IsRowItem dots kept.rows.items
    (record { node = f.start; step = 1; origin = 0 })) c.deref.ensures two in
    ((λ t. reported.0 (three.0 t)), (λ h. three.1 (reported.1 h)))
