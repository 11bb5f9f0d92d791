use Rattle.std.proofs.Common.{◌≡◌}
use Rattle.std.specs.Prelude.{slice_get, Some}
use Rattle.lazydfa.specs.StateSets.{StateSet}
use Rattle.rulelines.proofs.SomeLineLemmas.{AreDrawn}
use Rattle.rulelines.proofs.list.random.draw_word.Given as goal

abbrev pub invariant-loop-done : goal.invariant-loop-done
invariant-loop-done l = (s : StateSet) → slice_get l.table.states.states l.table.start ≡ Some s
    → AreDrawn l.table s l.done l.at l.word.items
