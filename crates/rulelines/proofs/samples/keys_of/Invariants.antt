use Rattle.ruletable.specs.Letters.{has}
use Rattle.rulelines.proofs.SamplesLemmas.{AreKeysTo}
use Rattle.rulelines.proofs.samples.keys_of.Given as goal

abbrev pub invariant-loop-bound : goal.invariant-loop-bound
invariant-loop-bound l = AreKeysTo (has l.alphabet) l.bounds l.bound-index l.keys.items
