use Rattle.abnfread.specs.AbnfViews.{definitions_from}
use Rattle.abnfread.specs.AbnfTable.{IsCoreTable}
use Rattle.abnfread.proofs.JoinedTableLemmas.{Goes}
use Rattle.abnfread.proofs.table.table_of.Given as goal

-- the table so far and the definitions that are left make up the table of all
abbrev pub invariant-loop-definition : goal.invariant-loop-definition
invariant-loop-definition l = Goes (definitions_from l.fn.definitions.items) l.abnf.rules l.abnf.redefined.items
    l.abnf.extended.items (definitions_from l.definition-iterator.rest.items) × IsCoreTable l.abnf.core
