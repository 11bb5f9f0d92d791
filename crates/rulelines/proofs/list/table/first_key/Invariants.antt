use Rattle.rulelines.proofs.FirstKeyLemmas.{AreNotTaken}
use Rattle.rulelines.proofs.list.table.first_key.Given as goal

abbrev pub invariant-loop-key : goal.invariant-loop-key
invariant-loop-key l = AreNotTaken l.table l.state l.from l.rest l.key-index
