use Rattle.std.proofs.Common.{◌≡◌, Some, sym, subst}
use Rattle.flatgrammar.specs.ItemClosures.{AreExact}
use Rattle.flatgrammar.specs.Inlines.{inlined_at}
use Rattle.flatgrammar.specs.PredictionClosures.{ArePredictionClosures}
use Rattle.flatgrammar.proofs.AreExactLemmas.{tables, tables_exact}
use Rattle.flatgrammar.proofs.flat.Flat.new.Goals as goal

pub prediction_closures-requires : goal.prediction_closures-requires
prediction_closures-requires c t inlined is = (c.in_ok-inlines.ensures t inlined
    (subst (λ v. inlined_at v t ≡ Some inlined) c.deref-3.ensures.value is)).within

pub invariant_of-result : goal.invariant_of-result
invariant_of-result c = subst (λ v. AreExact v) (sym c.in_ok-tables.ensures.ok)
    (tables_exact c.args.nodes c.args.bodies c.in_ok-targets.targets c.args.nulls c.new.result c.in_ok-inlines.inlines
    c.new-2.result c.in_ok-closures.closures c.new-3.result c.in_ok-lists.lists c.args.start c.args.limit _ _
    c.deref.ensures.value c.deref-2.ensures.value c.in_ok-targets.ensures c.requires.nulls c.in_ok-inlines.ensures
    (subst (λ v. ArePredictionClosures
    (tables c.args.nodes c.args.bodies c.in_ok-targets.targets c.args.nulls c.new.result
    c.new-2.result c.new-3.result c.args.start c.args.limit) v c.in_ok-closures.closures.items)
    c.deref-3.ensures.value c.in_ok-closures.ensures) c.in_ok-lists.ensures)
