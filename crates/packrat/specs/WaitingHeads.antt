-- Heads whose events are to be written, the next one first.
use Rattle.std.specs.Prelude.{ℕ, ◌<◌, ◌≤◌, List, [], ◌∷◌, ◌++◌}
use Rattle.pegmatch.specs.declared.event.Kept.{Kept}
use Rattle.packrat.specs.declared.events.link.Link.{Link}
use Rattle.packrat.specs.EventLog.{kept_at}

-- the heads, and how many there is room for
pub record WaitingView : Type 0 where
  pub heads : List ℕ
  pub room : ℕ

-- the events of heads, in order
abbrev pub kept_at_all : List Link → List ℕ → List Kept
kept_at_all links [] = []
kept_at_all links (head ∷ heads) = kept_at links head ++ kept_at_all links heads

-- Each head waits for a join that is newer than it, and the joins are newer from head to head: above `low`, and at
-- most `count`.
abbrev pub AreWaiting : ℕ → ℕ → List ℕ → Type 0
AreWaiting count low [] = low ≤ count
AreWaiting count low (head ∷ heads) =
    (join : ℕ) × (low < join) × (head < join) × AreWaiting count join heads
