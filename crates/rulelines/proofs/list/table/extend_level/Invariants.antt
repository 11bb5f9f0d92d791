use Rattle.rulelines.specs.StateTables.{IsTableGrown}
use Rattle.rulelines.proofs.list.table.extend_level.Given as goal

abbrev pub invariant-loop : goal.invariant-loop
invariant-loop l = IsTableGrown l.initial.table l.table
