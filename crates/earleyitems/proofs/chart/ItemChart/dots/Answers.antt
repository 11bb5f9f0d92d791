use Rattle.std.proofs.Common.{◌≡◌, ◌++◌, sym, subst}
use Rattle.std.specs.List.{flat_map}
use Rattle.flatgrammar.proofs.CallOfLemmas.{below_get}
use Rattle.flatgrammar.specs.ItemClosures.{closure_of}
use Rattle.earleyitems.specs.ChartSets.{set_at, AreDotsOf}
use Rattle.earleyitems.specs.declared.sets.Record.{Record}
use Rattle.earleyitems.proofs.SetDotsLemmas.{past_dots, dots_of_view, view_dots}
use Rattle.earleyitems.proofs.chart.ItemChart.dots.Goals as goal

pub returns-in-None-get : goal.returns-in-None-get
returns-in-None-get c =
    subst (λ v. AreDotsOf (set_at v c.args.j) c.new-dots.result.items) c.self.view_is
    (past_dots c.self.inside.tables c.in-Some.tables c.in-Some.is c.self.inside.sets c.args.j _
    c.new-dots.ensures.items
    (below_get c.self.inside.sets c.args.j (sym c.in-None-get.ensures)))

pub returns-in_ok-push_items-in-Some-get : goal.returns-in_ok-push_items-in-Some-get
returns-in_ok-push_items-in-Some-get c =
    let tables = c.in-Some.tables.value in
    let first = subst (λ v. c.push_predictions.new.out.items ≡ v
    ++ flat_map (λ (r : Record). (closure_of c.deref.result.now r.prediction).dots) c.records.result.now)
    c.new-dots.ensures.items
    c.in_ok-push_predictions-in-Some-get.ensures in
    subst (λ v. AreDotsOf (set_at v c.args.j) c.push_items.new.out.items) c.self.view_is
    (view_dots c.self.inside.tables c.in-Some.tables c.in-Some.is c.self.inside.sets c.args.j
    c.in-Some-get.kept_set _ (sym c.in-Some-get.ensures)
    (dots_of_view tables c.args.j c.in-Some-get.kept_set c.records.result.now c.items.result.now
    c.push_predictions.new.out.items c.push_items.new.out.items c.records.ensures.predictions c.items.ensures
    (subst (λ t. c.push_predictions.new.out.items
    ≡ flat_map (λ (r : Record). (closure_of t r.prediction).dots) c.records.result.now)
    c.deref.ensures first) c.in_ok-push_items-in-Some-get.ensures))
