-- The texts of the bytes so far have been taken, and no call has failed.
use Rattle.std.proofs.Common.{◌≡◌, take}
use Rattle.std.specs.Io.KnownBytes.{Appends}
use Rattle.pegrun.specs.ByteUnits.{texts_of}
use Rattle.pegrun.proofs.byte_units.ByteUnits.write.Given as goal

abbrev pub invariant-loop-byte : goal.invariant-loop-byte
invariant-loop-byte g l = record {
  taken : Appends (g.O.Sink.contents l.fn.out) (g.O.Sink.contents l.out) (texts_of l.self (take l.byte-index l.bytes));
  flag : g.O.Sink.failed l.out ≡ g.O.Sink.failed l.fn.out;
}
