use Rattle.std.proofs.Common.{sym, ◌∙◌}
use Rattle.flatgrammar.specs.PredictionClosures.{IsCalled}
use Rattle.flatgrammar.proofs.PredictionClosureLemmas.{one_more, called_one}
use Rattle.flatgrammar.proofs.prediction_closure.add_call.Goals as goal

pub returns-in_ok-push-in-None : goal.returns-in_ok-push-in-None
returns-in_ok-push-in-None c = one_more c.args.calls.now.items c.push.new.self.items c.in-Some.target
    (λ t. IsCalled c.args.flat.now c.args.inlines.now c.args.dot t) c.in_ok-push-in-None.ensures.items
    (called_one c.args.flat.now c.args.inlines.now c.args.dot c.in-Some.target _ (sym c.call.ensures ∙ c.in-Some.is)
    (sym c.inlined_at.ensures ∙ c.in-None.is))
