-- The ids make the names unique.
use Rattle.ruletable.proofs.table.RuleTable.len.Goals as goal

pub returns-clause-unique : goal.returns-clause-unique
returns-clause-unique g c = rw (← c.self.view_is) c.self.invariant.unique
