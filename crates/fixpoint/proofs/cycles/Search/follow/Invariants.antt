use Rattle.std.proofs.Common.{ℕ}
use Rattle.fixpoint.specs.StepRows.{slices_of}
use Rattle.fixpoint.specs.Way.{At, IsWay, IsRanked, way_of, tally_of, iterations}
use Rattle.fixpoint.specs.declared.cycles.SearchPosition.TheVariants as position
use Rattle.fixpoint.proofs.cycles.Search.follow.Given as goal

abbrev pub invariant-loop-last : goal.invariant-loop-last
invariant-loop-last l = record {
  way : IsWay (slices_of l.steps) (way_of l.self);
  ranked : IsRanked (slices_of l.steps) (way_of l.self) (tally_of l.self);
  fresh : (n : ℕ) → At l.self.positions.items n position.New → At l.initial.self.positions.items n position.New;
}

abbrev pub decreases-loop-last : goal.decreases-loop-last
decreases-loop-last l = iterations (slices_of l.steps) (way_of l.self)
