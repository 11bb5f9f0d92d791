-- The marks so far.
use Rattle.std.proofs.Common.{◌≡◌, ◌⊎◌, ℕ, length}
use Rattle.fixpoint.specs.NumberMarks.{IsMarked}
use Rattle.coverlines.proofs.needed.join_marks.Given as goal

abbrev pub invariant-loop-id : goal.invariant-loop-id
invariant-loop-id l = record {
  count : length l.marks.items ≡ length l.fn.marks.items;
  marks : (id : ℕ) → IsMarked l.marks.items id → IsMarked l.fn.marks.items id ⊎ IsMarked l.more id;
}
