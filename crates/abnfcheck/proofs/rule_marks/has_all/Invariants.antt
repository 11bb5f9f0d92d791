-- The values so far are letters.
use Rattle.std.proofs.Common.{take}
use Rattle.abnfcheck.specs.Derivable.{AreLetters}
use Rattle.ruletable.specs.Letters.{has}
use Rattle.abnfcheck.proofs.rule_marks.has_all.Given as goal

abbrev pub invariant-loop-value : goal.invariant-loop-value
invariant-loop-value l = AreLetters (has l.alphabet) (take l.value-index l.values)
