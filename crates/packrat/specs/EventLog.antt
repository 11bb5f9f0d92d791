-- The events of a log, as contracts see them.
use Rattle.std.specs.Prelude.{◌≡◌, ℕ, suc, ◌<◌, ◌≤◌, List, [], ◌∷◌, ◌++◌, length, if◌then◌else◌, ◌==◌}
use Rattle.pegmatch.specs.declared.event.Kept.{Kept}
use Rattle.packrat.specs.declared.events.link.Link.{Link}
use Rattle.packrat.specs.declared.events.link.Link.TheVariants.{Opened, Closed, Acted, Join}

-- 0, which stands for no events, or the number of a link, where the oldest has number 1
abbrev pub IsHead : List Link → ℕ → Type 0
IsHead links head = head ≤ length links

-- the events of a link, where `kept` gives those of the heads that it joins
abbrev pub events_of : (ℕ → List Kept) → Link → List Kept
events_of kept (Opened position) = Kept.Opened position ∷ []
events_of kept (Closed position) = Kept.Closed position ∷ []
events_of kept (Acted node) = Kept.Acted node ∷ []
events_of kept (Join first second) = kept first ++ kept second

-- the events of a head, in order; the links stand with the last one first
unfoldable pub kept_at : List Link → ℕ → List Kept
kept_at [] head = []
kept_at (link ∷ older) head =
    if head == suc (length older) then events_of (kept_at older) link else kept_at older head

-- Each head of the old links is one of the new, and its events stay.
abbrev pub AreGrown : List Link → List Link → Type 0
AreGrown old new = (head : ℕ) → IsHead old head → IsHead new head × (kept_at new head ≡ kept_at old head)

-- A join is of heads before this one.
abbrev pub IsBefore : ℕ → Link → Type 0
IsBefore head (Opened position) = Unit {0}
IsBefore head (Closed position) = Unit {0}
IsBefore head (Acted node) = Unit {0}
IsBefore head (Join first second) = (first < head) × (second < head)

-- Each join is of heads before its own.
abbrev pub AreOrdered : List Link → Type 0
AreOrdered [] = Unit {0}
AreOrdered (link ∷ older) = IsBefore (suc (length older)) link × AreOrdered older
