use Rattle.std.proofs.Common.{◌≡◌, take}
use Rattle.std.specs.List.{flat_map}
use Rattle.refusedlines.specs.SymbolPieces.{joined_run}
use Rattle.refusedlines.proofs.letterruns.joined.joined.Given as goal

abbrev pub invariant-loop-run : goal.invariant-loop-run
invariant-loop-run l = l.all.items ≡ flat_map (joined_run l.runs) (take l.run-index l.runs)
