use Rattle.std.proofs.Common.{◌≡◌, ◌<◌, ℕ, suc, get_or, None, Some, drop}
use Rattle.pegnodes.specs.declared.by_byte.ByteVerdict.TheVariants.{Stays}
use Rattle.pegnodes.specs.Predictive.{of_members}
use Rattle.pegnodes.proofs.settled.before_stays.Given as goal

-- not so after those so far
abbrev pub invariant-loop-i : goal.invariant-loop-i
invariant-loop-i l = (j : ℕ) → j < l.i
    → of_members (λ k. get_or l.row k None) (drop (suc j) l.members) ≡ Some Stays → ⊥
