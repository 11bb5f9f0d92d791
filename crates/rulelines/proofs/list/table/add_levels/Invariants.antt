use Rattle.rulelines.specs.StateTables.{IsTableGrown}
use Rattle.rulelines.proofs.list.table.add_levels.Given as goal

abbrev pub invariant-loop : goal.invariant-loop
invariant-loop l = IsTableGrown l.initial.table l.table
