use Rattle.rulelines.specs.CutSearch.{AreMorePairs, IsCutSearch}
use Rattle.rulelines.proofs.cuts.search_by_cuts.Given as goal

abbrev pub invariant-loop-at : goal.invariant-loop-at
invariant-loop-at l = AreMorePairs l.initial.search l.search
    × (IsCutSearch l.samples l.initial.search 0 → IsCutSearch l.samples l.search l.at)
