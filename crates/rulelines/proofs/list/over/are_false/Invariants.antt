use Rattle.rulelines.specs.StateTables.{HaveNoRest}
use Rattle.rulelines.proofs.list.over.are_false.Given as goal

abbrev pub invariant-loop-state : goal.invariant-loop-state
invariant-loop-state l = HaveNoRest l.table l.count l.state
