-- The opposites of the marks so far.
use Rattle.std.proofs.Common.{◌≡◌, map, not, take}
use Rattle.fixpoint.proofs.id_marks.opposites.Given as goal

abbrev pub invariant-loop-mark : goal.invariant-loop-mark
invariant-loop-mark l = l.others.items ≡ map not (take l.mark-index l.marks)
