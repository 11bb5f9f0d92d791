use Rattle.std.proofs.Common.{◌≡◌, length}
use Rattle.lazydfa.specs.StateSets.{AreMoreStates}
use Rattle.rulelines.specs.StateTables.{IsRowOf}
use Rattle.rulelines.proofs.list.table.lead_row.Given as goal

abbrev pub invariant-loop-start : goal.invariant-loop-start
invariant-loop-start l = record {
  more : AreMoreStates l.initial.states l.states;
  count : length l.row.items ≡ l.start-index;
  row : IsRowOf l.states l.starts l.state l.row.items;
}
