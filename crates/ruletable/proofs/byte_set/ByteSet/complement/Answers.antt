-- Each bit is turned.
use Rattle.ruletable.proofs.ByteSetLemmas.{length-members_of, members-turned}
use Rattle.ruletable.proofs.byte_set.ByteSet.complement.Goals as goal

pub returns-clause-count : goal.returns-clause-count
returns-clause-count c = length-members_of _

pub returns-clause-members : goal.returns-clause-members
returns-clause-members c k h = rw (← c.self.view_is) (members-turned c.self.inside.words k h)
