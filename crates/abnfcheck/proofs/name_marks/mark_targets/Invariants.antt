-- The targets of the rows so far are marked.
use Rattle.std.proofs.Common.{◌≡◌, ◌↔◌, ◌⊎◌, ◌<◌, ℕ, length}
use Rattle.fixpoint.specs.NumberMarks.{IsMarked}
use Rattle.fixpoint.specs.StepRows.{Step, rows_of}
use Rattle.abnfcheck.proofs.name_marks.mark_targets.Given as goal

abbrev pub invariant-loop-row : goal.invariant-loop-row
invariant-loop-row l = record {
  count : length l.marks ≡ length l.initial.marks;
  marks : (id : ℕ) → IsMarked l.marks id ↔ (IsMarked l.initial.marks id
      ⊎ ((user : ℕ) × (user < l.row-index) × Step (rows_of l.rows) user id));
}
