use Rattle.std.proofs.Common.{◌-◌, length}
use Rattle.pegrun.specs.ByteUnits.{SameTexts}
use Rattle.pegrun.proofs.byte_units.ByteUnits.make_room.Given as goal

abbrev pub invariant-loop-self : goal.invariant-loop-self
invariant-loop-self l = SameTexts l.fn.self l.self

abbrev pub decreases-loop-self : goal.decreases-loop-self
decreases-loop-self l = 256 - length l.self.known.items
