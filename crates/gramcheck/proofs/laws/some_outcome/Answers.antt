use Rattle.pegread.specs.PegViews.{rules_of}
use Rattle.pegnodes.specs.Nodes.{shapes_of}
use Rattle.gramcheck.proofs.SomeOutcomeLemmas.{standing_ends}
use Rattle.gramcheck.proofs.laws.some_outcome.Goals as goal

pub returns : goal.returns
returns c = λ g x e p sound stands le.
    let one = standing_ends (rules_of g.rules) g.start (shapes_of g.nodes) g.bodies g.ranks sound x e p stands le in
    (one.outcome, one.looked, one.gives)
