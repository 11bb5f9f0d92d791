use Rattle.pegread.specs.Steps.{rules_from}
use Rattle.pegread.proofs.IsTableOfLemmas.{Goes}
use Rattle.pegread.proofs.read.peg_of.Given as goal

-- the table so far and the definitions that are left make up the table of all
abbrev pub invariant-loop-definition : goal.invariant-loop-definition
invariant-loop-definition l = Goes (rules_from l.fn.definitions.items) l.rules l.redefined.items
    (rules_from l.definition-iterator.rest.items)
