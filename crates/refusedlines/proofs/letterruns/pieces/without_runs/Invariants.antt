use Rattle.std.proofs.Common.{◌≡◌, drop}
use Rattle.refusedlines.specs.SymbolPieces.{without_runs}
use Rattle.refusedlines.proofs.letterruns.pieces.without_runs.Given as goal

abbrev pub invariant-loop-cut : goal.invariant-loop-cut
invariant-loop-cut l = without_runs (drop l.cut-index l.cuts) l.rest.items ≡ without_runs l.cuts l.runs
