use Rattle.std.proofs.Common.{◌≡◌, ◌++◌, sym, subst}
use Rattle.flatgrammar.proofs.CallOfLemmas.{below_get}
use Rattle.earleyitems.specs.ChartSets.{older_dots, set_at, AreOlderDotsOf}
use Rattle.earleyitems.proofs.SetDotsLemmas.{past_older, view_older}
use Rattle.earleyitems.proofs.chart.ItemChart.older_dots.Goals as goal

pub returns-in-None-get : goal.returns-in-None-get
returns-in-None-get c =
    subst (λ v. AreOlderDotsOf (set_at v c.args.j) c.args.j c.new-dots.result.items) c.self.view_is
    (past_older c.self.inside.tables c.in-Some.field-0 c.in-Some.is c.self.inside.sets c.args.j _
    c.new-dots.ensures.items
    (below_get c.self.inside.sets c.args.j (sym c.in-None-get.ensures)))

pub returns-in_ok-push_older_items-in-Some-get : goal.returns-in_ok-push_older_items-in-Some-get
returns-in_ok-push_older_items-in-Some-get c =
    subst (λ v. AreOlderDotsOf (set_at v c.args.j) c.args.j c.push_older_items.new.out.items) c.self.view_is
    (view_older c.self.inside.tables c.in-Some.field-0 c.in-Some.is c.self.inside.sets c.args.j
    c.in-Some-get.kept_set c.items.result.now _ (sym c.in-Some-get.ensures) c.items.ensures
    (subst (λ v. c.push_older_items.new.out.items ≡ v ++ older_dots c.args.j c.items.result.now)
    c.new-dots.ensures.items c.in_ok-push_older_items-in-Some-get.ensures))
