use Rattle.pegread.specs.PegViews.{rules_of}
use Rattle.pegnodes.specs.Nodes.{shapes_of}
use Rattle.gramcheck.proofs.SomeOutcomeLemmas.{has_of_start}
use Rattle.gramcheck.proofs.laws.some_outcome_of_start.Goals as goal

pub returns : goal.returns
returns c = λ g x sound. has_of_start (rules_of g.rules) g.start (shapes_of g.nodes) g.bodies g.ranks sound x
