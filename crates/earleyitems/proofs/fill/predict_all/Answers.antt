use Rattle.std.proofs.Common.{ℕ, take, subst, sym}
use Rattle.flatgrammar.specs.Positions.{In}
use Rattle.earleyitems.specs.ItemSets.{Adds}
use Rattle.earleyitems.proofs.ExpandLemmas.{in_more, take_one}
use Rattle.earleyitems.proofs.fill.predict_all.Goals as goal

pub loop-prediction-preserved : goal.loop-prediction-preserved
loop-prediction-preserved c = subst (λ v. Adds {A = ℕ} (λ t. In t v) c.args.predictions.now c.add.new.self)
    (sym (take_one c.args.calls.now c.loop-prediction.prediction-index 0 c.loop-prediction-test.true))
    (in_more (take c.loop-prediction.prediction-index c.args.calls.now) _ _ _ _ c.loop-prediction.invariant
    c.in_ok-add.ensures)
