use Rattle.flatgrammar.proofs.PredictionClosureLemmas.{grows_one}
use Rattle.flatgrammar.proofs.prediction_closure.add_dot.Goals as goal

pub returns : goal.returns
returns c = grows_one c.args.flat.now c.args.inlines.now c.args.dot _ _ c.in_ok-push.ensures.items
    c.in_ok-add_call.ensures c.in_ok-add_pass.ensures
