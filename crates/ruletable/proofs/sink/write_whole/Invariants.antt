-- The bytes before `at` have been taken, and no call has failed.
use Rattle.std.proofs.Common.{◌≡◌, ◌-◌, ◌≤◌, length, take}
use Rattle.std.specs.Io.KnownBytes.{Appends}
use Rattle.ruletable.proofs.sink.write_whole.Given as goal

abbrev pub invariant-loop-at : goal.invariant-loop-at
invariant-loop-at g l = record {
  within : l.at ≤ length l.bytes;
  taken : Appends (g.W.Sink.contents l.fn.w) (g.W.Sink.contents l.w) (take l.at l.bytes);
  flag : g.W.Sink.failed l.w ≡ g.W.Sink.failed l.fn.w;
}

abbrev pub decreases-loop-at : goal.decreases-loop-at
decreases-loop-at g l = length l.initial.bytes - l.at
