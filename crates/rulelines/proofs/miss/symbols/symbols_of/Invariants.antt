use Rattle.rulelines.specs.StateTables.{line_symbols}
use Rattle.rulelines.proofs.LineSamplesLemmas.{AreSymbolsTo}
use Rattle.rulelines.proofs.miss.symbols.symbols_of.Given as goal

abbrev pub invariant-loop-key : goal.invariant-loop-key
invariant-loop-key l = AreSymbolsTo (line_symbols l.inner) l.keys l.key-index l.symbols.items
