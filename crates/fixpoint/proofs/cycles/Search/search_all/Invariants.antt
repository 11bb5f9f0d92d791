use Rattle.fixpoint.specs.StepRows.{slices_of}
use Rattle.fixpoint.specs.Way.{IsThrough, IsRanked, way_of, tally_of}
use Rattle.fixpoint.proofs.cycles.Search.search_all.Given as goal

abbrev pub invariant-loop-n : goal.invariant-loop-n
invariant-loop-n l = record {
  through : IsThrough (slices_of l.steps) (way_of l.self) l.n;
  ranked : IsRanked (slices_of l.steps) (way_of l.self) (tally_of l.self);
}
