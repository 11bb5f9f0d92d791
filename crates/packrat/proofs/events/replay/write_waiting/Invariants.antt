use Rattle.std.proofs.Common.{◌≡◌, ◌+◌, ◌<◌, List, length, reverse}
use Rattle.pegnodes.specs.Nodes.{shapes_of}
use Rattle.gramcheck.specs.Outcome.{Event}
use Rattle.gramcheck.specs.Rising.{Rise}
use Rattle.pegmatch.specs.KeptEvents.{StandFor}
use Rattle.pegmatch.proofs.IsPrintedLemmas.{HaveWritten}
use Rattle.packrat.specs.WaitingHeads.{kept_at_all, AreWaiting}
use Rattle.packrat.proofs.events.replay.write_waiting.Given as goal

abbrev pub invariant-events : goal.invariant-events
invariant-events g l = record {
  written : (all : List Event) → StandFor (shapes_of l.peg.nodes)
      (kept_at_all (reverse l.links) l.fn.walk.waiting.heads) all → Rise 0 (length l.window) all →
      HaveWritten l.style (shapes_of l.peg.nodes) l.window all (kept_at_all (reverse l.links) l.walk.waiting.heads) 0
      (g.W.Sink.contents l.initial.out) (g.W.Sink.contents l.out) l.capture;
  flag : g.W.Sink.failed l.out ≡ g.W.Sink.failed l.initial.out;
  waits : AreWaiting (length l.links + 1) 0 l.walk.waiting.heads;
  room : length l.links < l.walk.waiting.room;
}

abbrev pub decreases-events : goal.decreases-events
decreases-events g l = length (kept_at_all (reverse l.links) l.walk.waiting.heads)
