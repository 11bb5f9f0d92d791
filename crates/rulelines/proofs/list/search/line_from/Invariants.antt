use Rattle.std.proofs.Common.{◌<◌, ◌≤◌, ℕ, List, length}
use Rattle.rulelines.specs.LineSets.{IsLineIn}
use Rattle.rulelines.specs.StateTables.{IsTableGrown, table_lines}
use Rattle.rulelines.proofs.list.search.line_from.Given as goal

abbrev pub invariant-loop-count : goal.invariant-loop-count
invariant-loop-count l = record {
  kept : IsTableGrown l.initial.table l.table;
  none : (v : List ℕ) → IsLineIn (table_lines l.initial.table l.limit) v → l.least ≤ length v → length v < l.count → ⊥;
}
