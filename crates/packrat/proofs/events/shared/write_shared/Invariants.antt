use Rattle.std.proofs.Common.{◌≡◌, ℕ, ◌+◌, ◌<◌, List, Option, length, reverse}
use Rattle.pegnodes.specs.Nodes.{shapes_of}
use Rattle.gramcheck.specs.Outcome.{Event}
use Rattle.pegmatch.proofs.IsPrintedLemmas.{HaveWritten}
use Rattle.packrat.specs.WaitingHeads.{kept_at_all, AreWaiting}
use Rattle.packrat.specs.QuietJoins.{Recalls}
use Rattle.packrat.proofs.events.shared.write_shared.Given as goal

abbrev pub invariant-events : goal.invariant-events
invariant-events g l = record {
  written : (old : Option (List ℕ)) (all : List Event) →
      HaveWritten l.style (shapes_of l.peg.nodes) l.window all (kept_at_all (reverse l.links) l.fn.walk.waiting.heads) 0
      old (g.W.Sink.contents l.initial.out) l.fn.walk.capture →
      HaveWritten l.style (shapes_of l.peg.nodes) l.window all (kept_at_all (reverse l.links) l.walk.waiting.heads) 0
      old (g.W.Sink.contents l.out) l.walk.capture;
  flag : g.W.Sink.failed l.out ≡ g.W.Sink.failed l.initial.out;
  waits : AreWaiting (length l.links + 1) 0 l.walk.waiting.heads;
  room : length l.links < l.walk.waiting.room;
  recalls : Recalls l.style (shapes_of l.peg.nodes) l.window (reverse l.links) l.walk.waiting.heads
      (length l.walk.waiting.heads) l.walk;
}

abbrev pub decreases-events : goal.decreases-events
decreases-events g l = length (kept_at_all (reverse l.links) l.walk.waiting.heads)
