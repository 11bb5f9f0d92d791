use Rattle.std.proofs.Common.{take}
use Rattle.flatgrammar.specs.Positions.{In}
use Rattle.earleyitems.specs.ItemSets.{Adds}
use Rattle.earleyitems.proofs.fill.predict_all.Given as goal

abbrev pub invariant-loop-prediction : goal.invariant-loop-prediction
invariant-loop-prediction l = Adds (λ t. In t (take l.prediction-index l.calls)) l.initial.predictions l.predictions
