use Rattle.std.proofs.Common.{length, ◌≤◌}
use Rattle.rulelines.specs.MissSearch.{found_states, IsExpandedTo}
use Rattle.rulelines.proofs.miss.search.expand.Given as goal

abbrev pub invariant-loop-symbol : goal.invariant-loop-symbol
invariant-loop-symbol l = record {
  expanded : IsExpandedTo l.samples l.symbol-index (found_states l.initial.search) (found_states l.search) l.at
      l.live.items;
  within : l.symbol-index ≤ length l.samples;
}
