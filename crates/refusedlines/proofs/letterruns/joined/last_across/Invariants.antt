use Rattle.std.proofs.Common.{◌≡◌, drop}
use Rattle.refusedlines.specs.SymbolPieces.{last_across}
use Rattle.refusedlines.proofs.letterruns.joined.last_across.Given as goal

abbrev pub invariant-loop-run : goal.invariant-loop-run
invariant-loop-run l = last_across (drop l.run-index l.runs) ≡ last_across l.runs
