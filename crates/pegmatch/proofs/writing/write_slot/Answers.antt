use Rattle.ruletable.proofs.AppendsLemmas.{AppendsPart-first}
use Rattle.pegmatch.proofs.writing.write_slot.Goals as goal

pub returns-in-Err-clause-bytes : goal.returns-in-Err-clause-bytes
returns-in-Err-clause-bytes g c = AppendsPart-first _ _ _ _ c.in-Err.ensures.bytes
