use Rattle.std.proofs.lemmas.Result.{IfOk-weaker}
use Rattle.pegread.specs.PegViews.{rules_of}
use Rattle.pegexplain.proofs.SureNodesLemmas.{sure-rules}
use Rattle.pegexplain.proofs.sure.sure_rules.Goals as goal

pub returns : goal.returns
returns c =
    let marked = c.in_ok-marks.ensures.marks (rules_of c.args.rules.now)
    (rw (c.deref.ensures.value, c.deref-2.ensures.value) c.in_ok-cut.ensures.bodies) in
    let are = rw c.deref.ensures.value at marked in
    IfOk-weaker c.body_marks.result _ _ (λ found marked_bodies.
    let is = rw (c.deref-3.ensures.value, c.deref-4.ensures.value) at marked_bodies in
    sure-rules (rules_of c.args.rules.now) _ _ _ _ c.in_ok-cut.ensures.bodies are is) c.body_marks.ensures
