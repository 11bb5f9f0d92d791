use Rattle.pegread.specs.PegViews.{rules_of}
use Rattle.pegnodes.specs.Nodes.{shapes_of}
use Rattle.pegnodes.proofs.AreBodiesLemmas.{AreCut, AreListed}
use Rattle.pegnodes.proofs.cut.cut_grammar.Given as goal

abbrev pub invariant-loop-id : goal.invariant-loop-id
invariant-loop-id l = AreCut (rules_of l.rules) l.id (shapes_of l.nodes.items) l.bodies.items
    × AreListed (rules_of l.rules) l.id (shapes_of l.nodes.items) l.bodies.items
