use Rattle.rulelines.proofs.WrongSymbolsLemmas.{HasNoneBesideTo}
use Rattle.rulelines.proofs.miss.wrong.is_edge.Given as goal

abbrev pub invariant-loop-index : goal.invariant-loop-index
invariant-loop-index l = HasNoneBesideTo l.samples l.live l.index l.symbol
