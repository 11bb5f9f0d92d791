use Rattle.std.proofs.Common.{◌≡◌, ◌++◌, map, take}
use Rattle.refusedlines.specs.RefusedText.{slashed}
use Rattle.refusedlines.specs.ReportedLetters.{reported_text}
use Rattle.refusedlines.proofs.letterruns.reported_text.push_all.Given as goal

abbrev pub invariant-loop-i : goal.invariant-loop-i
invariant-loop-i l = l.out.items ≡ l.fn.out.items ++ slashed (map reported_text (take l.i l.reported))
