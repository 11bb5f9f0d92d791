use Rattle.std.proofs.Common.{◌⊎◌, inl, inr, refl, subst, sym, IsTrue}
use Rattle.flatgrammar.specs.Positions.{In}
use Rattle.flatgrammar.specs.ItemClosures.{closure_of}
use Rattle.earleyitems.specs.SetViews.{expand}
use Rattle.flatgrammar.proofs.InLemmas.{in_left}
use Rattle.earleyitems.proofs.ClosureLemmas.{in_right, in_either}
use Rattle.earleyitems.proofs.chart.contains.Goals as goal

pub returns-then-in_predictions : goal.returns-then-in_predictions
returns-then-in_predictions c = (
  (λ u. in_left c.args.kept_set.now.items (subst
      (λ v. In c.args.item (expand (closure_of c.args.flat.now) c.args.number v)) c.records.ensures.predictions
      (c.in_predictions.ensures.0 c.if-in_predictions.true))),
  (λ h. refl),
)

pub returns : goal.returns
returns c = (
  (λ u. in_right (expand (closure_of c.args.flat.now) c.args.number c.args.kept_set.now.predictions)
      (subst (λ v. In c.args.item v) c.items.ensures (c.holds.ensures.0 u))),
  (λ h. by (in_either (expand (closure_of c.args.flat.now) c.args.number c.args.kept_set.now.predictions) h)),
)
  where
    by : In c.args.item (expand (closure_of c.args.flat.now) c.args.number c.args.kept_set.now.predictions)
        ⊎ In c.args.item c.args.kept_set.now.items → IsTrue c.holds.result
    by (inl g) =
        let t = c.in_predictions.ensures.1
        (subst (λ v. In c.args.item (expand (closure_of c.args.flat.now) c.args.number v))
        (sym c.records.ensures.predictions) g) in
        let f = c.if-in_predictions.false in absurd cc
    by (inr g) = c.holds.ensures.1 (subst (λ v. In c.args.item v) (sym c.items.ensures) g)
