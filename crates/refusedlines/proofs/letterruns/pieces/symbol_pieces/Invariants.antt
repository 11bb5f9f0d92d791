use Rattle.std.proofs.Common.{◌≡◌, ◌++◌, drop}
use Rattle.refusedlines.specs.CoreSymbols.{core_sets}
use Rattle.refusedlines.specs.SymbolPieces.{pieces, pieces_by}
use Rattle.refusedlines.proofs.letterruns.pieces.symbol_pieces.Given as goal

abbrev pub invariant-loop-rule : goal.invariant-loop-rule
invariant-loop-rule l = l.all.items ++ pieces_by l.alphabet (drop l.rule-index core_sets) l.rest.items
    ≡ pieces l.alphabet l.runs
