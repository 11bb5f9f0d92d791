use Rattle.abnfread.specs.AbnfViews.{rules_of}
use Rattle.flatgrammar.specs.FlatViews.{nodes_of}
use Rattle.lowering.specs.Numbers.{AreCut}
use Rattle.lowering.proofs.lower_elem.number_bodies.Given as goal

abbrev pub invariant-loop-id : goal.invariant-loop-id
invariant-loop-id l = AreCut (rules_of l.rules) l.limit l.id (nodes_of l.numbered.nodes.items) l.numbered.nulls.items
    l.bodies.items
