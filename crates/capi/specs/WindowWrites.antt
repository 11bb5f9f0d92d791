-- What the runs of windows write, as private functions know it.
use Rattle.std.specs.Prelude.{ℕ, List, Option}
use Rattle.memoryrun.specs.BufferContents.{buffer_contents}
use Rattle.memoryrun.specs.declared.buffer_sink.BufferSink.{BufferSink}

-- what a sink over a buffer took
abbrev pub sink_contents : BufferSink → Option (List ℕ)
sink_contents sink = buffer_contents sink.room.ghost_name sink.room.now sink.len sink.before.bytes sink.taken.bytes
