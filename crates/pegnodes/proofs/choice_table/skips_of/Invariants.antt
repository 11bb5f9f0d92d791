use Rattle.std.proofs.Common.{◌≡◌, ℕ, length, Some, slice_get}
use Rattle.pegnodes.specs.ChoiceTables.{IsChoiceTable}
use Rattle.pegnodes.specs.Decides.{mark_in, tail_in}
use Rattle.pegnodes.specs.Nodes.{Choice, shapes_of}
use Rattle.pegnodes.proofs.choice_table.skips_of.Given as goal

-- of the bytes so far
abbrev pub invariant-loop-b : goal.invariant-loop-b
invariant-loop-b l = record {
  count : length l.entries.items ≡ l.b;
  table : (n : ℕ) → slice_get (shapes_of l.grammar.nodes.now) n ≡ Some (Choice l.alternatives)
      → IsChoiceTable (shapes_of l.grammar.nodes.now) l.grammar.bodies.now (mark_in l.grammar) (tail_in l.grammar) n
      l.alternatives l.entries.items;
}
