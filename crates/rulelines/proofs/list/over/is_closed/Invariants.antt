use Rattle.rulelines.specs.StateTables.{AreRowsClosed}
use Rattle.rulelines.proofs.list.over.is_closed.Given as goal

abbrev pub invariant-loop-state : goal.invariant-loop-state
invariant-loop-state l = AreRowsClosed l.table l.state
