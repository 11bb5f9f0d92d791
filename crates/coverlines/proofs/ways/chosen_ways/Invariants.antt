-- The alternatives so far.
use Rattle.std.proofs.Common.{◌≡◌}
use Rattle.coverlines.specs.MissedGoals.{chosen_below}
use Rattle.coverlines.proofs.ways.chosen_ways.Given as goal

abbrev pub invariant-loop-i : goal.invariant-loop-i
invariant-loop-i l = l.ways.items ≡ chosen_below l.i
