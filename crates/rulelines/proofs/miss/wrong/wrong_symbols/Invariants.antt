use Rattle.rulelines.proofs.WrongSymbolsLemmas.{IsWrongSoFar}
use Rattle.rulelines.proofs.miss.wrong.wrong_symbols.Given as goal

abbrev pub invariant-loop-index : goal.invariant-loop-index
invariant-loop-index l = IsWrongSoFar l.samples l.live l.edges l.index l.wrong.items
