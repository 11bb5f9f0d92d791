use Rattle.std.proofs.Common.{◌≡◌, ℕ, List, take}
use Rattle.diagnostics.specs.NameIndexes.{uses_name}
use Rattle.diagnostics.specs.NumberLists.{numbers_for, positions_from}
use Rattle.diagnostics.proofs.noteplaces.name_index.uses_by_name.Given as goal

abbrev pub invariant-loop-position : goal.invariant-loop-position
invariant-loop-position l = record {
  compares : l.lists.names ≡ l.fn.names;
  each : (name : List ℕ) → numbers_for l.lists name
      ≡ positions_from 0 (uses_name l.fn.names name) (take l.position l.mentions);
}
