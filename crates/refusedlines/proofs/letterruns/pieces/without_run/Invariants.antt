use Rattle.std.proofs.Common.{◌≡◌, take}
use Rattle.refusedlines.specs.SymbolPieces.{without_run}
use Rattle.refusedlines.proofs.letterruns.pieces.without_run.Given as goal

abbrev pub invariant-loop-run : goal.invariant-loop-run
invariant-loop-run l = l.rest.items ≡ without_run l.cut (take l.run-index l.runs)
