use Rattle.std.proofs.Common.{◌≡◌}
use Rattle.std.specs.Prelude.{slice_get, Some}
use Rattle.lazydfa.specs.StateSets.{StateSet}
use Rattle.rulelines.proofs.WordLemmas.{IsWalk}
use Rattle.rulelines.proofs.list.search.last_change.Given as goal

abbrev pub invariant-loop-at : goal.invariant-loop-at
invariant-loop-at l = (s : StateSet) → slice_get l.table.states.states l.table.start ≡ Some s
    → IsWalk l.table s l.line l.at l.state l.best
