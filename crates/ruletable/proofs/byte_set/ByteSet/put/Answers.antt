-- The byte's bit is set, and no other changes.
use Rattle.std.proofs.Common.{arith, ◌∙◌, sym}
use Rattle.ruletable.proofs.ByteSetLemmas.{length-members_of, members-put}
use Rattle.ruletable.proofs.byte_set.ByteSet.put.Goals as goal

pub returns-clause-count : goal.returns-clause-count
returns-clause-count c = rw (← c.self.view_is) (length-members_of _ ∙ sym (length-members_of c.self.inside.words))

pub returns-clause-members : goal.returns-clause-members
returns-clause-members c = rw (← c.self.view_is, c.from-position.ensures)
    (members-put c.self.inside.words c.args.b c.self.told (omega arith))
