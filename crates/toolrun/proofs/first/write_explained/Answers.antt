-- The lines that explain a fault after its own.
use Rattle.ruletable.proofs.AppendsLemmas.{AppendsPart-first, Writes-then}
use Rattle.toolrun.proofs.first.write_explained.Goals as goal

pub returns-in-Ok-clause-bytes : goal.returns-in-Ok-clause-bytes
returns-in-Ok-clause-bytes g c =
    Writes-then _ _ _ _ _ c.write_whole.result c.in-Ok.ensures.bytes c.write_whole.ensures.bytes

pub returns-in-Err-clause-bytes : goal.returns-in-Err-clause-bytes
returns-in-Err-clause-bytes g c = AppendsPart-first _ _ _ _ c.in-Err.ensures.bytes
