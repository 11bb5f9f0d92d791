use Rattle.std.proofs.Common.{◌≡◌, take}
use Rattle.std.specs.List.{flat_map}
use Rattle.refusedlines.specs.ReportedLetters.{reported_run}
use Rattle.refusedlines.proofs.letterruns.reported.reported_letters.Given as goal

abbrev pub invariant-loop-run : goal.invariant-loop-run
invariant-loop-run l = l.reported.items ≡ flat_map (reported_run l.alphabet l.runs) (take l.run-index l.runs)
