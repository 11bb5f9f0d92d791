use Rattle.std.proofs.Common.{take}
use Rattle.abnfread.specs.AbnfViews.{elements_of, rules_of}
use Rattle.flatgrammar.specs.FlatViews.{nodes_of}
use Rattle.lowering.specs.Numbers.{NumbersAll}
use Rattle.lowering.proofs.lower_elem.+numbering.Given as goal

abbrev pub invariant-number_all-loop-member : goal.invariant-number_all-loop-member
invariant-number_all-loop-member l =
    NumbersAll (rules_of l.rules) l.limit (nodes_of l.initial.numbered.nodes.items)
    (nodes_of l.numbered.nodes.items) l.initial.numbered.nulls.items l.numbered.nulls.items l.numbers.items
    l.all l.any (elements_of (take l.member-index l.members))
