use Rattle.std.proofs.Common.{◌≡◌, ℕ, List, length}
use Rattle.pegnodes.specs.Nodes.{Shape}
use Rattle.pegmatch.specs.declared.style.PrintStyle.{PrintStyle}
use Rattle.packrat.specs.declared.events.link.Link.{Link}
use Rattle.packrat.specs.QuietJoins.{Recalls}
use Rattle.packrat.proofs.events.walk.ReplayWalk.next_head.Given as goal

abbrev pub invariant-ended : goal.invariant-ended
invariant-ended l = record {
  recalls : (style : PrintStyle) (nodes : List Shape) (x : List ℕ) (links : List Link) →
      Recalls style nodes x links l.fn.self.waiting.heads (length l.fn.self.waiting.heads) l.fn.self →
      Recalls style nodes x links l.self.waiting.heads (length l.self.waiting.heads) l.self;
  waiting : l.self.waiting ≡ l.fn.self.waiting;
  capture : l.self.capture ≡ l.fn.self.capture;
}

abbrev pub decreases-ended : goal.decreases-ended
decreases-ended l = length l.self.joins.items
