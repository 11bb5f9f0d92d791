use Rattle.std.proofs.Common.{◌≡◌, get_or, None, drop}
use Rattle.pegnodes.specs.Predictive.{of_alternatives}
use Rattle.pegnodes.proofs.foresight.alternatives_verdict.Given as goal

abbrev pub invariant-loop-i : goal.invariant-loop-i
invariant-loop-i l = of_alternatives (λ m. get_or l.row m None) l.alternatives
    ≡ of_alternatives (λ m. get_or l.row m None) (drop l.i l.alternatives)
