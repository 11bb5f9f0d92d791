use Rattle.earley.specs.DotTables.{AreCallsBelow}
use Rattle.earley.proofs.dot_table.calls_of.Given as goal

abbrev pub invariant-loop-from : goal.invariant-loop-from
invariant-loop-from l = AreCallsBelow l.steps l.target l.from l.calls.items
