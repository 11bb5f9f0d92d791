use Rattle.std.proofs.Common.{ℕ, ◌<◌, ◌≤◌}
use Rattle.rulelines.specs.MissSearch.{found_states, IsStatePassed}
use Rattle.rulelines.proofs.miss.search.next_live.Given as goal

abbrev pub invariant-loop-at : goal.invariant-loop-at
invariant-loop-at l = (i : ℕ) → l.search.at ≤ i → i < l.at → IsStatePassed (found_states l.search) i
