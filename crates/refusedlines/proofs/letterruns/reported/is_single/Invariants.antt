use Rattle.std.proofs.Common.{◌≡◌, false, take}
use Rattle.refusedlines.specs.ReportedLetters.{is_single}
use Rattle.refusedlines.proofs.letterruns.reported.is_single.Given as goal

abbrev pub invariant-loop-run : goal.invariant-loop-run
invariant-loop-run l = is_single (take l.run-index l.runs) l.letter ≡ false
