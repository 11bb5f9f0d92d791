use Rattle.std.proofs.Common.{subst, sym}
use Rattle.std.proofs.lemmas.Result.{IfOk-weaker}
use Rattle.flatgrammar.specs.CalledParts.{AreAwaited}
use Rattle.earleyitems.specs.ChartSets.{IsSet, set_at}
use Rattle.earley.specs.OldDots.{AreOldDots, ArePartsOf}
use Rattle.earley.proofs.OldDotsLemmas.{parts_awaited}
use Rattle.earley.proofs.awaited.awaited_at.Goals as goal

pub returns : goal.returns
returns c =
    let tables = c.in_ok-tables.tables.value in
    let set = set_at c.args.chart.now c.args.n in
    let are = subst (λ v. AreOldDots v c.args.n c.in_ok-older.older.items c.in_ok-dots.dots.items
    c.in_ok-old.old.items) c.deref.ensures
    (subst (λ v. AreOldDots c.deref.result.now c.args.n v c.in_ok-dots.dots.items c.in_ok-old.old.items)
    c.deref-2.ensures.value
    (subst (λ v. AreOldDots c.deref.result.now c.args.n c.deref-2.result.now v c.in_ok-old.old.items)
    c.deref-3.ensures.value c.in_ok-old.ensures)) in
    IfOk-weaker c.parts_of.result _ _ (λ parts found x is_set.
    subst (λ v. AreAwaited v x c.args.n parts.items) c.in_ok-tables.ensures.view
    (parts_awaited tables x c.args.n set (subst (λ v. IsSet v x c.args.n set) (sym c.in_ok-tables.ensures.view) is_set)
    c.in_ok-older.older.items c.in_ok-dots.dots.items c.in_ok-old.old.items c.in_ok-older.ensures c.in_ok-dots.ensures
    are parts.items
    (subst (λ v. ArePartsOf v c.in_ok-old.old.items parts.items) c.deref-4.ensures
    (subst (λ v. ArePartsOf c.deref-4.result.now v parts.items) c.deref-5.ensures.value found)))) c.parts_of.ensures
