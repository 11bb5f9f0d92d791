use Rattle.std.proofs.Common.{◌≡◌, ◌<◌, ℕ, suc, get_or, None, Some, drop}
use Rattle.std.specs.Prelude.{slice_get}
use Rattle.fixpoint.specs.NumberMarks.{IsMarked}
use Rattle.pegnodes.specs.Predictive.{of_members}
use Rattle.pegnodes.specs.SettledNeeds.{IsSure}
use Rattle.pegnodes.proofs.settled.are_members_sure.Given as goal

-- after those so far
abbrev pub invariant-loop-i : goal.invariant-loop-i
invariant-loop-i l = (j m : ℕ) → j < l.i → slice_get l.members j ≡ Some m → IsMarked l.over m
    → IsSure (of_members (λ k. get_or l.row k None) (drop (suc j) l.members))
