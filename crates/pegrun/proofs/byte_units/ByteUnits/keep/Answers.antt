use Rattle.pegrun.proofs.ByteUnitLemmas.{kept_byte}
use Rattle.pegrun.proofs.byte_units.ByteUnits.keep.Goals as goal

pub returns-then-is_ok : goal.returns-then-is_ok
returns-then-is_ok c = λ g style are one.
    kept_byte g style c.args.self.now c.make_room.new.self c.args.byte c.args.known c.make_room.ensures.same are one
