use Rattle.std.proofs.Common.{◌≡◌, ◌<◌, Some}
use Rattle.flatgrammar.specs.ItemClosures.{closure_in}
use Rattle.flatgrammar.specs.PredictionClosures.{Grows}
use Rattle.flatgrammar.proofs.prediction_closure.add_node.Given as goal

abbrev pub invariant-loop-step : goal.invariant-loop-step
invariant-loop-step l = Grows l.flat l.inlines (λ p. (p.node ≡ l.node) × (p.step < l.step))
    (closure_in (Some l.initial.closure)) (closure_in (Some l.closure))
