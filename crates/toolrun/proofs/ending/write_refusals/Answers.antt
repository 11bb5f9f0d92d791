-- How many more lines after the text of the first ones.
use Rattle.ruletable.proofs.AppendsLemmas.{AppendsPart-first, Writes-then}
use Rattle.toolrun.proofs.ending.write_refusals.Goals as goal

pub returns-in-Ok-clause-bytes : goal.returns-in-Ok-clause-bytes
returns-in-Ok-clause-bytes g c =
    Writes-then _ _ _ _ _ c.write_more.result (rw c.as_slice.ensures.value at c.in-Ok.ensures.bytes)
    c.write_more.ensures.bytes

pub returns-in-Err-clause-bytes : goal.returns-in-Err-clause-bytes
returns-in-Err-clause-bytes g c =
    AppendsPart-first _ _ _ _ (rw c.as_slice.ensures.value at c.in-Err.ensures.bytes)
