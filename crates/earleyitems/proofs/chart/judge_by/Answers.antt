use Rattle.std.proofs.Common.{◌+◌, ◌<◌, length, map, ap, ◌∙◌, sym, subst}
use Rattle.std.specs.Prelude.{sum_by}
use Rattle.std.proofs.lemmas.List.{length-map}
use Rattle.flatgrammar.specs.NodeSteps.{flat_of}
use Rattle.flatgrammar.specs.ItemClosures.{AreAlone, AreOwners, AreDotLists}
use Rattle.earleyitems.specs.Charts.{IsExact}
use Rattle.earleyitems.specs.ChartSets.{set_at, IsSet}
use Rattle.earleyitems.specs.SetViews.{views}
use Rattle.earleyitems.proofs.ChartSetsLemmas.{chart_set, more_items}
use Rattle.earleyitems.proofs.chart.judge_by.Goals as goal

pub is_yes-answer-requires-clause-exact : goal.is_yes-answer-requires-clause-exact
is_yes-answer-requires-clause-exact g c =
    subst (λ v. IsExact v (map g.L.Letter.number c.args.line.now) (views v 0 c.fill_sets.new.sets))
    (c.deref.ensures ∙ sym c.deref-then-whole.ensures) c.in_ok-whole.ensures.exact

pub returns-then-whole-clause-sets : goal.returns-then-whole-clause-sets
returns-then-whole-clause-sets g c = λ j.
    subst (λ v. IsSet (flat_of c.args.tables.value) (map g.L.Letter.number c.args.line.now) j (set_at v j))
    (sym c.keep.ensures)
    (chart_set c.args.tables.value (map g.L.Letter.number c.args.line.now) c.fill_sets.new.sets
    (c.in_ok-whole.ensures.size c.if-whole.true ∙ ap (λ v. v + 1) (sym (length-map c.args.line.now g.L.Letter.number)))
    (subst (λ v. IsExact v (map g.L.Letter.number c.args.line.now) (views v 0 c.fill_sets.new.sets))
    c.deref.ensures c.in_ok-whole.ensures.exact) j)

pub returns-clause-more : goal.returns-clause-more
returns-clause-more g c = more_items c.args.tables.value (map g.L.Letter.number c.args.line.now) c.fill_sets.new.sets
    c.args.most
    (subst (λ v. IsExact v (map g.L.Letter.number c.args.line.now) (views v 0 c.fill_sets.new.sets)) c.deref.ensures
    c.in_ok-whole.ensures.exact)
    (subst (λ v. c.args.most < sum_by (λ set. length set) (views v 0 c.fill_sets.new.sets)) c.deref.ensures
    (c.in_ok-whole.ensures.more c.if-whole.false))

pub fill_sets-requires-clause-alone : goal.fill_sets-requires-clause-alone
fill_sets-requires-clause-alone g c = subst (λ v. AreAlone v) (sym c.deref.ensures) c.requires.exact.inlines

pub fill_sets-requires-clause-lists : goal.fill_sets-requires-clause-lists
fill_sets-requires-clause-lists g c = subst (λ v. AreDotLists v) (sym c.deref.ensures) c.requires.exact.lists

pub fill_sets-requires-clause-owners : goal.fill_sets-requires-clause-owners
fill_sets-requires-clause-owners g c = subst (λ v. AreOwners v) (sym c.deref.ensures) c.requires.exact.owners
