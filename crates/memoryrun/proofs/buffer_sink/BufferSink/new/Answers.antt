-- The text is taken.
use Rattle.memoryrun.proofs.BufferSinkLemmas.{buffer_known}
use Rattle.memoryrun.proofs.buffer_sink.BufferSink.new.Goals as goal

pub returns-clause-contents : goal.returns-clause-contents
returns-clause-contents c =
    let before = rw c.none.ensures at c.then-before.ensures in
    let taken = rw c.none-2.ensures at c.then-taken.ensures in
    rw (before, taken) (buffer_known c.args.room.ghost_name c.lay-len.result c.lay-len.new.room c.args.room.now
    c.args.text.now c.lay-len.ensures.length c.lay-len.ensures.room)
