use Rattle.rulelines.proofs.OldAloneLemmas.{LeadsTo}
use Rattle.rulelines.proofs.alone.word_of.Given as goal

abbrev pub invariant-loop : goal.invariant-loop
invariant-loop l = LeadsTo l.pairs l.index l.at l.word.items
