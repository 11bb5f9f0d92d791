-- The line of a stop after what is reported of rejected lines.
use Rattle.ruletable.proofs.AppendsLemmas.{AppendsPart-first, Writes-then}
use Rattle.toolrun.proofs.ending.write_reported.Goals as goal

pub returns-in-Ok-clause-bytes : goal.returns-in-Ok-clause-bytes
returns-in-Ok-clause-bytes g c =
    Writes-then _ _ _ _ _ c.write_after.result c.in-Ok.ensures.bytes c.write_after.ensures.bytes

pub returns-in-Err-clause-bytes : goal.returns-in-Err-clause-bytes
returns-in-Err-clause-bytes g c = AppendsPart-first _ _ _ _ c.in-Err.ensures.bytes
