use Rattle.std.proofs.Common.{◌≡◌, ℕ, ◌+◌, List, length, reverse}
use Rattle.pegnodes.specs.Nodes.{Shape}
use Rattle.pegmatch.specs.declared.style.PrintStyle.{PrintStyle}
use Rattle.packrat.specs.WaitingHeads.{AreWaiting}
use Rattle.packrat.specs.QuietJoins.{Recalls, IsPassedTo}
use Rattle.packrat.proofs.KeptAtLemmas.{steps_at_all}
use Rattle.packrat.proofs.events.shared.next_event.Given as goal

abbrev pub invariant-heads : goal.invariant-heads
invariant-heads l = record {
  passed : (style : PrintStyle) (nodes : List Shape) (x : List ℕ) →
      Recalls style nodes x (reverse l.links) l.fn.walk.waiting.heads (length l.fn.walk.waiting.heads) l.fn.walk →
      IsPassedTo style nodes x (reverse l.links) l.fn.walk l.walk.waiting.heads (length l.walk.waiting.heads) l.walk;
  waits : AreWaiting (length l.links + 1) 0 l.walk.waiting.heads;
  room : l.walk.waiting.room ≡ l.fn.walk.waiting.room;
}

abbrev pub decreases-heads : goal.decreases-heads
decreases-heads l = steps_at_all (reverse l.links) l.walk.waiting.heads
