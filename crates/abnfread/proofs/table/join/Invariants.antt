use Rattle.std.proofs.Common.{◌≡◌}
use Rattle.abnfread.specs.Element.{append}
use Rattle.abnfread.specs.AbnfTable.{alternatives_of}
use Rattle.abnfread.specs.AbnfViews.{element_of, elements_of}
use Rattle.abnfread.proofs.table.join.Given as goal

-- the alternatives so far and those that are left are all
abbrev pub invariant-loop-e : goal.invariant-loop-e
invariant-loop-e l = append (elements_of l.all.items) (elements_of l.e-iterator.rest.items)
    ≡ append (alternatives_of (element_of l.fn.old)) (alternatives_of (element_of l.fn.new))
