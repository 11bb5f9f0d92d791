use Rattle.abnfread.proofs.AbnfFaultLemmas.{one-reading, one-fault, no-fault}
use Rattle.abnfread.proofs.read.one_reading.Goals as goal

pub returns-clause-definitions : goal.returns-clause-definitions
returns-clause-definitions c = one-reading

pub returns-clause-no_fault : goal.returns-clause-no_fault
returns-clause-no_fault c = λ text definitions fault f other reads. other (no-fault text definitions fault reads f)

pub returns-clause-one_fault : goal.returns-clause-one_fault
returns-clause-one_fault c = one-fault
