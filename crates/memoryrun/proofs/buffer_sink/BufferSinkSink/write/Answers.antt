-- More is taken.
use Rattle.std.proofs.Common.{rules, ◌≡◌, ◌+◌, length}
use Rattle.memoryrun.proofs.BufferSinkLemmas.{more_taken}
use Rattle.memoryrun.proofs.buffer_sink.BufferSinkSink.write.Goals as goal

pub returns-clause-bytes : goal.returns-clause-bytes
returns-clause-bytes c =
    let counted : c.in-Some.len ≡ c.args.self.now.len + length c.args.bytes.now = search rules in
    more_taken _ c.args.self.now.len c.in-Some.len c.args.self.now.room.now c.lay_after.new.room
    c.args.self.now.before.bytes c.args.self.now.taken.bytes c.then-self.result.bytes c.args.bytes.now
    c.lay_after.ensures counted c.then-self.ensures
