use Rattle.std.proofs.Common.{◌∙◌, ap, subst, sym}
use Rattle.std.proofs.lemmas.Result.{IfOk-weaker}
use Rattle.earleyitems.specs.ChartSets.{set_at, AreOlderDotsOf}
use Rattle.earley.specs.RowCharts.{chart_by}
use Rattle.earley.proofs.RowDotsLemmas.{row_chart_older, row_past_older}
use Rattle.earley.proofs.RowStepLemmas.{found_at, missing_past}
use Rattle.earley.proofs.chart.Chart.older_dots.Goals as goal

pub returns-in-Some-get : goal.returns-in-Some-get
returns-in-Some-get c =
    let look = rw c.deref.ensures.value at c.in-Some-get.ensures.lookup in
    let is = found_at c.in-Some.rows.sets.items c.args.j c.in-Some-get.set.now look.0 look.1 in
    let r = c.in-Some.rows in
    IfOk-weaker c.row_older_dots.result _ _ (λ dots are.
    let found = rw (c.deref-in-Some-get.ensures.value, c.deref-in-Some-get-2.ensures.value) at are in
    subst (λ v. AreOlderDotsOf (set_at v c.args.j) c.args.j dots.items)
    (sym (ap (λ o. chart_by o c.self.inside.items) c.in-Some.is) ∙ c.self.view_is)
    (row_chart_older r c.args.j c.in-Some-get.set.now _ is found)) c.row_older_dots.ensures

pub returns-in-None-get : goal.returns-in-None-get
returns-in-None-get c =
    let look = rw c.deref.ensures.value at c.in-None-get.ensures.lookup in
    subst (λ v. AreOlderDotsOf (set_at v c.args.j) c.args.j c.new.result.items)
    (sym (ap (λ o. chart_by o c.self.inside.items) c.in-Some.is) ∙ c.self.view_is)
    (row_past_older c.in-Some.rows c.args.j _ (missing_past c.in-Some.rows.sets.items c.args.j look.0)
    c.new.ensures.items)
