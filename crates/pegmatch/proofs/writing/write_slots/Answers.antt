use Rattle.std.proofs.Common.{◌∙◌, ◌≤◌, arith, refl}
use Rattle.std.specs.Prelude.{slice_index_or}
use Rattle.pegnodes.specs.declared.template.Put.{Put}
use Rattle.pegnodes.specs.declared.template.Slot.{Slot}
use Rattle.pegmatch.proofs.WrittenTextLemmas.{written_next, written_fault, written_last, order_next, slot_ends}
use Rattle.pegmatch.proofs.writing.write_slots.Goals as goal

abbrev default : Slot
default = record { from = 0; to = 0; put = Put.Capture }

pub slice_bounds-write_slot-end : goal.slice_bounds-write_slot-end
slice_bounds-write_slot-end g c =
    let ends : (slice_index_or c.args.slots.now c.loop-slot.slot-index default).from ≤ c.args.to =
    slot_ends c.args.text.now c.args.capture.now c.args.from c.args.slots.now _ _ _ _ default refl
    c.loop-slot-test.true c.loop-slot.invariant.order in
    let within = c.requires.within in
    omega arith

pub returns-in-Err-clause-bytes : goal.returns-in-Err-clause-bytes
returns-in-Err-clause-bytes g c = written_fault _ _ _ _ _ _ _ _ default refl c.loop-slot-test.true _ _ _
    c.loop-slot.invariant.text c.in-Err.ensures.bytes

pub loop-slot-preserved : goal.loop-slot-preserved
loop-slot-preserved g c = record {
  order = order_next c.args.text.now c.args.capture.now c.args.from c.args.slots.now _ _ _ _ default refl
      c.loop-slot-test.true c.loop-slot.invariant.order;
  text = written_next _ _ _ _ _ _ _ _ default refl c.loop-slot-test.true _ _ _ c.loop-slot.invariant.text
      c.in-Ok.ensures.bytes;
  flag = c.in-Ok.ensures.flag ∙ c.loop-slot.invariant.flag;
}

pub returns-clause-bytes : goal.returns-clause-bytes
returns-clause-bytes g c = written_last _ _ _ _ _ _ _ c.loop-slot-test.false _ _ _ c.write_some.result
    c.loop-slot.invariant.text c.write_some.ensures.bytes
