use Rattle.std.proofs.Common.{◌≡◌, drop}
use Rattle.pegnodes.specs.Slots.{AreSlots}
use Rattle.pegmatch.proofs.WrittenTextLemmas.{IsWritten}
use Rattle.pegmatch.proofs.writing.write_slots.Given as goal

abbrev pub invariant-loop-slot : goal.invariant-loop-slot
invariant-loop-slot g l = record {
  order : AreSlots l.at (drop l.slot-index l.slots) l.to;
  text : IsWritten (g.W.Sink.contents l.initial.out) (g.W.Sink.contents l.out) l.text l.capture l.from l.slots
      (drop l.slot-index l.slots) l.at l.to;
  flag : g.W.Sink.failed l.out ≡ g.W.Sink.failed l.initial.out;
}
