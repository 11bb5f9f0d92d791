use Rattle.std.proofs.Common.{length, sym, ap, ◌∙◌}
use Rattle.earleyitems.specs.ChartSets.{set_at}
use Rattle.earley.specs.RowCharts.{chart_by}
use Rattle.earley.proofs.RowChartLemmas.{row_size}
use Rattle.earley.proofs.RowStepLemmas.{found_at}
use Rattle.earley.proofs.chart.Chart.items.Goals as goal

pub returns-in-Some-get : goal.returns-in-Some-get
returns-in-Some-get c =
    let look = rw c.deref.ensures.value at c.in-Some-get.ensures.lookup in
    let is = found_at c.in-Some.rows.sets.items c.args.j c.in-Some-get.set.now look.0 look.1 in
    row_size c.in-Some.rows c.args.j c.in-Some-get.set.now is
    (c.self.invariant.size c.in-Some.rows c.in-Some.is c.args.j c.in-Some-get.set.now is)
    ∙ ap (λ v. length (set_at v c.args.j))
    (sym (ap (λ o. chart_by o c.self.inside.items) c.in-Some.is) ∙ c.self.view_is)
