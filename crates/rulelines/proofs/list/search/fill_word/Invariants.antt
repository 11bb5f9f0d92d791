use Rattle.std.proofs.Common.{◌≡◌}
use Rattle.std.specs.Prelude.{slice_get, Some}
use Rattle.lazydfa.specs.StateSets.{StateSet}
use Rattle.rulelines.proofs.WordLemmas.{IsFilling}
use Rattle.rulelines.proofs.list.search.fill_word.Given as goal

abbrev pub invariant-loop-done : goal.invariant-loop-done
invariant-loop-done l = (s : StateSet) → slice_get l.table.states.states l.state ≡ Some s
    → IsFilling l.table s l.count l.done l.at l.initial.word.items l.word.items
