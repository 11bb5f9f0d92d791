-- No bit is set.
use Rattle.ruletable.proofs.ByteSetLemmas.{length-members_of, members-none}
use Rattle.ruletable.proofs.byte_set.ByteSet.new.Goals as goal

pub returns-clause-count : goal.returns-clause-count
returns-clause-count c = length-members_of _

pub returns-clause-empty : goal.returns-clause-empty
returns-clause-empty c = members-none
