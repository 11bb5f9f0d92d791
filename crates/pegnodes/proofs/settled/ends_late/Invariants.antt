use Rattle.std.proofs.Common.{◌≡◌, ◌<◌, ℕ, suc, get_or, None, Some, drop}
use Rattle.std.specs.Prelude.{slice_get}
use Rattle.fixpoint.specs.NumberMarks.{IsMarked}
use Rattle.pegnodes.specs.declared.by_byte.ByteVerdict.TheVariants.{Stays}
use Rattle.pegnodes.specs.Predictive.{of_alternatives}
use Rattle.pegnodes.proofs.settled.ends_late.Given as goal

-- not so after those so far
abbrev pub invariant-loop-i : goal.invariant-loop-i
invariant-loop-i l = (j m : ℕ) → j < l.i → slice_get l.alternatives j ≡ Some m → IsMarked l.late m
    → of_alternatives (λ k. get_or l.row k None) (drop (suc j) l.alternatives) ≡ Some Stays → ⊥
