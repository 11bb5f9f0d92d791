use Rattle.std.proofs.Common.{◌≡◌, length}
use Rattle.pegnodes.specs.Decides.{mark_in, tail_in}
use Rattle.pegnodes.specs.Nodes.{shapes_of}
use Rattle.pegnodes.specs.RunTables.{IsTable}
use Rattle.pegnodes.proofs.run_table.entries_of.Given as goal

-- of the bytes so far
abbrev pub invariant-loop-b : goal.invariant-loop-b
invariant-loop-b l = record {
  count : length l.entries.items ≡ l.b;
  table : IsTable (shapes_of l.grammar.nodes.now) l.grammar.bodies.now (mark_in l.grammar)
      (tail_in l.grammar) l.n l.entries.items;
}
