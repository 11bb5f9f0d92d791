use Rattle.std.proofs.Common.{◌≡◌, length, sym, subst}
use Rattle.earleyitems.specs.ChartSets.{set_at}
use Rattle.flatgrammar.proofs.CallOfLemmas.{below_get}
use Rattle.earleyitems.proofs.ChartSetsLemmas.{size_past}
use Rattle.earleyitems.proofs.chart.ItemChart.items.Goals as goal

pub returns-in-None : goal.returns-in-None
returns-in-None c = sym (subst (λ v. length (set_at v c.args.j) ≡ 0) c.self.view_is
    (size_past c.self.inside.tables c.self.inside.sets c.args.j
    (below_get c.self.inside.sets c.args.j (sym c.in-None.ensures))))
