use Rattle.std.proofs.Common.{◌≡◌, ℕ, List, take}
use Rattle.diagnostics.specs.NameIndexes.{stands_under}
use Rattle.diagnostics.specs.NumberLists.{numbers_for, positions_from}
use Rattle.diagnostics.proofs.noteplaces.name_index.bodies_by_name.Given as goal

abbrev pub invariant-loop-position : goal.invariant-loop-position
invariant-loop-position l = record {
  compares : l.lists.names ≡ l.fn.names;
  each : (name : List ℕ) → numbers_for l.lists name
      ≡ positions_from 0 (stands_under l.fn.names l.heads name) (take l.position l.mentions);
}
