use Rattle.std.proofs.Common.{◌≡◌, drop}
use Rattle.std.specs.List.{list_all}
use Rattle.refusedlines.specs.SymbolPieces.{has_run}
use Rattle.refusedlines.proofs.letterruns.pieces.has_runs.Given as goal

abbrev pub invariant-loop-part : goal.invariant-loop-part
invariant-loop-part l = list_all (has_run l.runs) (drop l.part-index l.parts) ≡ list_all (has_run l.runs) l.parts
