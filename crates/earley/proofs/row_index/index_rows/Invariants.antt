use Rattle.std.proofs.Common.{◌≡◌, length}
use Rattle.earley.specs.RowIndexes.{AreIndexedBelow}
use Rattle.earley.proofs.row_index.index_rows.Given as goal

abbrev pub invariant-loop-position : goal.invariant-loop-position
invariant-loop-position l = record {
  own : length l.own ≡ length l.initial.own;
  rest : length l.rest ≡ length l.initial.rest;
  union : length l.union ≡ length l.initial.union;
  indexes : AreIndexedBelow l.number l.position l.rows l.initial.own l.initial.rest l.initial.union l.own l.rest
      l.union;
}
