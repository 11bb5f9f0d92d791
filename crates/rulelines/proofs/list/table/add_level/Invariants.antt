use Rattle.rulelines.specs.StateTables.{IsTableGrown}
use Rattle.rulelines.proofs.list.table.add_level.Given as goal

abbrev pub invariant-loop-count : goal.invariant-loop-count
invariant-loop-count l = IsTableGrown l.fn.table l.table
