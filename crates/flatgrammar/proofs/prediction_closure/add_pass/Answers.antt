use Rattle.std.proofs.Common.{[], sym, ◌∙◌}
use Rattle.flatgrammar.specs.ItemClosures.{dot}
use Rattle.flatgrammar.specs.PredictionClosures.{IsPast}
use Rattle.flatgrammar.proofs.PredictionClosureLemmas.{one_more, passed_one}
use Rattle.flatgrammar.proofs.prediction_closure.add_pass.Goals as goal

pub returns : goal.returns
returns c = one_more c.args.passes.now.items c.push.new.self.items (dot c.args.dot.node c.in-Some.next)
    (λ r. IsPast c.args.flat.now c.args.dot r) c.in_ok-push.ensures.items
    (passed_one c.args.flat.now [] c.args.dot c.in-Some.target c.in-Some.next (sym c.call.ensures ∙ c.in-Some.is)
    (sym c.null.ensures ∙ c.if-not-null.false) (sym c.takes_letter.ensures ∙ c.if-takes_letter.false)
    c.if-next-dot.false)
