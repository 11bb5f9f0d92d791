-- Joins whose events print nothing.
use Rattle.std.specs.Prelude.{◌≡◌, ◌⊎◌, ℕ, ◌≤◌, List, [], ◌∷◌, ◌++◌, length, reverse, slice_range, nat_eq}
use Rattle.std.specs.Prelude.{Option, Some, None}
use Rattle.std.specs.HashMap.{get}
use Rattle.pegnodes.specs.Nodes.{Shape}
use Rattle.gramcheck.specs.Outcome.{Event}
use Rattle.pegmatch.specs.KeptEvents.{StandsFor}
use Rattle.pegmatch.specs.EventPrinting.{event_text, capture_by}
use Rattle.pegmatch.specs.declared.event.Kept.{Kept}
use Rattle.pegmatch.specs.declared.writing.Capture.{Capture}
use Rattle.pegmatch.specs.declared.style.PrintStyle.{PrintStyle}
use Rattle.packrat.specs.declared.events.link.Link.{Link}
use Rattle.packrat.specs.declared.events.walk.Passage.{Passage}
use Rattle.packrat.specs.declared.events.walk.QuietJoin.{QuietJoin}
use Rattle.packrat.specs.declared.events.walk.ReplayWalk.{ReplayWalk}
use Rattle.packrat.specs.EventLog.{kept_at}
use Rattle.packrat.specs.WaitingHeads.{kept_at_all}

-- The event prints nothing at this capture.
abbrev pub IsSilent : PrintStyle → List Shape → List ℕ → Capture → Kept → Type 0
IsSilent style nodes x capture kept =
    (e : Event) → StandsFor nodes kept e → event_text style e (slice_range x capture.from capture.to) ≡ []

-- The events print nothing from one capture to another.
abbrev pub AreSilent : PrintStyle → List Shape → List ℕ → Capture → List Kept → Capture → Type 0
AreSilent style nodes x before [] after = before ≡ after
AreSilent style nodes x before (event ∷ events) after =
    IsSilent style nodes x before event × AreSilent style nodes x (capture_by before event) events after

-- The events of a join up to this capture print nothing. The heads above those that waited before it have the others.
pub record IsStarted (style : PrintStyle) (nodes : List Shape) (x : List ℕ) (links : List Link) (heads : List ℕ)
    (capture : Capture) (join : QuietJoin) : Type 0 where
  pub above : List ℕ
  pub beneath : List ℕ
  pub parts : heads ≡ above ++ beneath
  pub count : length beneath ≡ join.below
  pub passed : List Kept
  pub kept : kept_at links join.head ≡ passed ++ kept_at_all links above
  pub silent : AreSilent style nodes x join.before passed capture

-- joins that began, the last one first, where at most so many heads waited before it
abbrev pub AreStarted : PrintStyle → List Shape → List ℕ → List Link → List ℕ → Capture → ℕ → List QuietJoin → Type 0
AreStarted style nodes x links heads capture most [] = Unit {0}
AreStarted style nodes x links heads capture most (join ∷ joins) =
    (join.below ≤ most) × IsStarted style nodes x links heads capture join
    × AreStarted style nodes x links heads capture join.below joins

-- What a replay knows of joins is right if these heads wait.
pub record Recalls (style : PrintStyle) (nodes : List Shape) (x : List ℕ) (links : List Link) (heads : List ℕ)
    (most : ℕ) (walk : ReplayWalk) : Type 0 where
  pub joins : AreStarted style nodes x links heads walk.capture most (reverse walk.joins.items)
  pub passages : (head : ℕ) (passage : Passage) → get nat_eq walk.passages head ≡ Some passage →
      AreSilent style nodes x passage.before (kept_at links head) passage.after

-- A join was added, or nothing.
pub record AddsJoin (join : QuietJoin) (old new : ReplayWalk) : Type 0 where
  pub capture : new.capture ≡ old.capture
  pub passages : new.passages ≡ old.passages
  pub joins : (new.joins.items ≡ old.joins.items ++ join ∷ []) ⊎ (new.joins.items ≡ old.joins.items)

-- Events that print nothing were passed, and those of these heads are left.
pub record IsPassedTo (style : PrintStyle) (nodes : List Shape) (x : List ℕ) (links : List Link) (old : ReplayWalk)
    (heads : List ℕ) (most : ℕ) (new : ReplayWalk) : Type 0 where
  pub passed : List Kept
  pub silent : AreSilent style nodes x old.capture passed new.capture
  pub kept : kept_at_all links old.waiting.heads ≡ passed ++ kept_at_all links heads
  pub recalls : Recalls style nodes x links heads most new

-- Events that print nothing were passed, and the next one was taken, if one was left.
abbrev pub IsNextEvent : PrintStyle → List Shape → List ℕ → List Link → ReplayWalk → ReplayWalk → Option Kept → Type 0
IsNextEvent style nodes x links old new None =
    (new.waiting.heads ≡ []) × IsPassedTo style nodes x links old [] 0 new
IsNextEvent style nodes x links old new (Some event) =
    (head : ℕ) × (kept_at links head ≡ event ∷ [])
    × IsPassedTo style nodes x links old (head ∷ new.waiting.heads) (length new.waiting.heads) new

-- A walk went on after an event. The joins that began stay only if it prints nothing.
pub record PassesEvent (style : PrintStyle) (nodes : List Shape) (x : List ℕ) (event : Kept) (old new : ReplayWalk) :
    Type 0 where
  pub waiting : new.waiting ≡ old.waiting
  pub capture : new.capture ≡ capture_by old.capture event
  pub passages : new.passages ≡ old.passages
  pub joins : (new.joins.items ≡ []) ⊎
      ((new.joins.items ≡ old.joins.items) × IsSilent style nodes x old.capture event)
