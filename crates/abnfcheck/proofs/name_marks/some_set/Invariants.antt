-- None of the marks so far is set.
use Rattle.std.proofs.Common.{◌<◌, ℕ}
use Rattle.fixpoint.specs.NumberMarks.{IsMarked}
use Rattle.abnfcheck.proofs.name_marks.some_set.Given as goal

abbrev pub invariant-loop-mark : goal.invariant-loop-mark
invariant-loop-mark l = (k : ℕ) → k < l.mark-index → IsMarked l.marks k → ⊥
