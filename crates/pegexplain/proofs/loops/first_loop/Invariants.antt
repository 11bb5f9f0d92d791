-- None of the repetitions so far repeats what may take nothing.
use Rattle.std.proofs.Common.{◌≡◌, ◌<◌, ℕ, false, map, Some}
use Rattle.std.specs.Prelude.{slice_get}
use Rattle.pegread.specs.Pattern.{Pattern}
use Rattle.pegread.specs.PegViews.{pattern_of}
use Rattle.pegexplain.specs.NullTests.{loops_by, null_mark_of}
use Rattle.pegexplain.proofs.loops.first_loop.Given as goal

abbrev pub invariant-loop-position : goal.invariant-loop-position
invariant-loop-position l = (k : ℕ) (d : Pattern) → k < l.position
    → slice_get (map (λ x. pattern_of x.now) l.repeats) k ≡ Some d → loops_by (null_mark_of l.rules l.marks) d ≡ false
