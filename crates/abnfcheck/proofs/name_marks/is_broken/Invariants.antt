-- None of the numbers so far is broken.
use Rattle.std.proofs.Common.{◌<◌, ℕ}
use Rattle.abnfcheck.specs.NameMarks.{IsBroken}
use Rattle.abnfcheck.proofs.name_marks.is_broken.Given as goal

abbrev pub invariant-loop-id : goal.invariant-loop-id
invariant-loop-id l = (k : ℕ) → k < l.id → IsBroken l.marks l.prose k → ⊥
