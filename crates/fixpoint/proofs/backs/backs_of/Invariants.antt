use Rattle.std.proofs.Common.{◌≡◌, ℕ, length}
use Rattle.fixpoint.specs.StepRows.{slices_of}
use Rattle.fixpoint.specs.Distances.{AreDistances}
use Rattle.fixpoint.specs.Fills.{AreBacksTo}
use Rattle.fixpoint.proofs.backs.backs_of.Given as goal

abbrev pub invariant-loop-n : goal.invariant-loop-n
invariant-loop-n l = (length l.backs.items ≡ length l.steps)
    × ((s : ℕ) → AreDistances (slices_of l.steps) s l.far → AreBacksTo (slices_of l.steps) s l.backs.items l.n)
