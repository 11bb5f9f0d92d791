-- The counts after the name.
use Rattle.ruletable.proofs.AppendsLemmas.{AppendsPart-first, Writes-then}
use Rattle.linejudge.proofs.printed.write_named_count.Goals as goal

pub returns-in-Ok-clause-bytes : goal.returns-in-Ok-clause-bytes
returns-in-Ok-clause-bytes g c =
    Writes-then _ _ _ _ _ c.write_count.result c.in-Ok.ensures.bytes c.write_count.ensures.bytes

pub returns-in-Err-clause-bytes : goal.returns-in-Err-clause-bytes
returns-in-Err-clause-bytes g c = AppendsPart-first _ _ _ _ c.in-Err.ensures.bytes
