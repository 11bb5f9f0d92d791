use Rattle.pegmatch.proofs.WrittenTextLemmas.{order_whole, action_written, action_fault}
use Rattle.pegmatch.proofs.writing.write_plain_action.Goals as goal

pub write_slots-requires-clause-order : goal.write_slots-requires-clause-order
write_slots-requires-clause-order g c = rw c.deref.ensures.value
    (order_whole c.args.text.now c.args.capture.now _ c.requires.cut)

pub returns-in-Ok-clause-bytes : goal.returns-in-Ok-clause-bytes
returns-in-Ok-clause-bytes g c = action_written c.args.text.now c.args.capture.now _ c.requires.cut _ _ _ _ _
    c.if-raw.false
    (rw c.deref-2.ensures.value at c.in-Ok.ensures.bytes) c.write_whole.ensures.bytes

pub returns-in-Err-clause-bytes : goal.returns-in-Err-clause-bytes
returns-in-Err-clause-bytes g c = action_fault c.args.text.now c.args.capture.now _ c.requires.cut _ _
    (g.W.Sink.contents c.args.out.now) _ c.if-raw.false (rw c.deref-2.ensures.value at c.in-Err.ensures.bytes)
