use Rattle.std.proofs.Common.{◌≡◌, length}
use Rattle.pegnodes.specs.ByteTables.{AreByteTables}
use Rattle.pegnodes.specs.Decides.{marks_in}
use Rattle.pegnodes.specs.Nodes.{shapes_of}
use Rattle.pegnodes.proofs.byte_tables.find_tables.Given as goal

-- of the nodes so far
abbrev pub invariant-loop-n : goal.invariant-loop-n
invariant-loop-n l = record {
  long : length l.tables.positions.items ≡ l.n;
  are : AreByteTables (shapes_of l.grammar.nodes.now) l.grammar.bodies.now (marks_in l.grammar)
      l.tables.positions.items l.tables.runs.items l.tables.choices.items;
}
