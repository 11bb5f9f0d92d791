-- The count of the marks so far, of which there are few.
use Rattle.std.proofs.Common.{◌≡◌, ◌<◌, ◌≤◌, ℕ}
use Rattle.pegexplain.specs.LeftNotes.{set_before}
use Rattle.pegexplain.proofs.left_notes.ways_end.Given as goal

abbrev pub invariant-loop-id : goal.invariant-loop-id
invariant-loop-id l = record {
  is : l.count ≡ set_before l.marks l.id;
  most : l.count ≤ 8;
  early : (k : ℕ) → k < l.id → set_before l.marks k < 8;
}
