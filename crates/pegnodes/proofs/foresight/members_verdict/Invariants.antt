use Rattle.std.proofs.Common.{◌≡◌, get_or, None, drop}
use Rattle.pegnodes.specs.Predictive.{of_members}
use Rattle.pegnodes.proofs.foresight.members_verdict.Given as goal

abbrev pub invariant-loop-i : goal.invariant-loop-i
invariant-loop-i l = of_members (λ m. get_or l.row m None) l.members
    ≡ of_members (λ m. get_or l.row m None) (drop l.i l.members)
