use Rattle.std.proofs.Common.{◌≡◌, ◌+◌, ◌∷◌, length, reverse}
use Rattle.packrat.specs.WaitingHeads.{kept_at_all, AreWaiting}
use Rattle.packrat.proofs.KeptAtLemmas.{steps_at_all}
use Rattle.packrat.proofs.events.take.take_event.Given as goal

abbrev pub invariant-down : goal.invariant-down
invariant-down l = record {
  kept : kept_at_all (reverse l.links) (l.top ∷ l.waiting.heads) ≡ kept_at_all (reverse l.links) l.fn.waiting.heads;
  waits : AreWaiting (length l.links + 1) 0 (l.top ∷ l.waiting.heads);
  room : l.waiting.room ≡ l.fn.waiting.room;
}

abbrev pub decreases-down : goal.decreases-down
decreases-down l = steps_at_all (reverse l.links) (l.top ∷ l.waiting.heads)
