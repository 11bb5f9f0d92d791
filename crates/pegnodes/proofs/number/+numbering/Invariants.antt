use Rattle.std.proofs.Common.{take}
use Rattle.pegread.specs.PegViews.{patterns_of, rules_of}
use Rattle.pegnodes.specs.Nodes.{shapes_of}
use Rattle.pegnodes.specs.Numbering.{NumbersAll}
use Rattle.pegnodes.proofs.number.+numbering.Given as goal

abbrev pub invariant-number_all-loop-member : goal.invariant-number_all-loop-member
invariant-number_all-loop-member l =
    NumbersAll (rules_of l.rules) (shapes_of l.initial.nodes.items) (shapes_of l.nodes.items) l.numbers.items
    (patterns_of (take l.member-index l.members))
