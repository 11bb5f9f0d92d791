use Rattle.std.proofs.lemmas.List.{length-map}
use Rattle.std.proofs.lemmas.Result.{IfOk-weaker}
use Rattle.matchfailure.specs.Farthest.{IsFarthest}
use Rattle.pegnodes.specs.Nodes.{shape_of, shapes_of}
use Rattle.pegread.specs.PegViews.{rules_of}
use Rattle.matchfailure.proofs.FoundFailuresLemmas.{found-fits}
use Rattle.matchfailure.proofs.explain.explain.FailureSearch.failure_in.Goals as goal

pub returns-clause-fitting : goal.returns-clause-fitting
returns-clause-fitting c =
    let law = c.farthest_is_within.ensures in
    IfOk-weaker c.farthest_failure.result _ _ (λ search is unit fits. found-fits search.farthest _ _ _ unit _
    (λ f vs. IsFarthest (rules_of c.args.peg.now.rules) (shapes_of c.args.peg.now.nodes) c.args.peg.now.bodies
    c.args.seen.now c.args.peg.now.start f vs)
    (λ f vs far. law.position _ _ _ _ _ _ f vs c.farthest_failure.ensures.sound far)
    (λ f vs far. law.expected _ _ _ _ _ _ f vs c.farthest_failure.ensures.sound far)
    (length-map c.args.peg.now.nodes shape_of) fits is)
    c.farthest_failure.ensures.farthest
