-- So many rows, those added empty.
use Rattle.std.proofs.Common.{◌≡◌, ℕ, length}
use Rattle.fixpoint.specs.StepRows.{rows_of, row_at}
use Rattle.abnfcheck.proofs.name_ids.pad.Given as goal

abbrev pub invariant-loop-n : goal.invariant-loop-n
invariant-loop-n l = record {
  count : length l.rows.items ≡ l._n;
  rows : (n : ℕ) → row_at (rows_of l.rows.items) n ≡ row_at (rows_of l.initial.rows.items) n;
}
