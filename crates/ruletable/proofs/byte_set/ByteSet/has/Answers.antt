-- The test reads the byte's bit.
use Rattle.std.proofs.Common.{arith}
use Rattle.ruletable.proofs.ByteSetLemmas.{members-has}
use Rattle.ruletable.proofs.byte_set.ByteSet.has.Goals as goal

pub returns : goal.returns
returns c = rw (← c.self.view_is, c.from-position.ensures) (members-has c.self.inside.words c.args.b (omega arith))
