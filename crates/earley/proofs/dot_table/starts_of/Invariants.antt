use Rattle.earley.specs.DotTables.{AreFirstPositions}
use Rattle.earley.proofs.dot_table.starts_of.Given as goal

abbrev pub invariant-loop-step : goal.invariant-loop-step
invariant-loop-step l = AreFirstPositions l.numbers.dots.items l.target l.step l.starts.items
