-- What the kept events stand for, and what was found for a node.
use Rattle.std.specs.Prelude.{◌≡◌, ℕ, ◌≤◌, List, [], ◌∷◌, ◌++◌, slice_get, Some, Result, Ok, Err}
use Rattle.pegread.specs.Pattern.{Pattern, Patterns, Rule}
use Rattle.pegnodes.specs.Nodes.{Shape, Act, Spells, SpellAll}
use Rattle.gramcheck.specs.Outcome as event
use Rattle.gramcheck.specs.Outcome.{Outcome, Fails, Takes, Gives, GivesAll, GivesFirst}
use Rattle.pegmatch.specs.declared.event.Kept.{Kept}
use Rattle.memo.specs.declared.found.Found.{Found}
use Rattle.pegmatch.specs.declared.leaves.Tried.{Tried}
use Rattle.pegmatch.specs.declared.matcher.Unit.{Unit as UnitAnswer}
use Rattle.pegmatch.specs.declared.matcher.Unit.TheVariants as unit

-- the event that is kept: an action is kept by the number of its node
pub data StandsFor (nodes : List Shape) : Kept → event.Event → Type 0 where
  opened : {p : ℕ} → StandsFor nodes (Kept.Opened p) (event.Opened p)
  closed : {p : ℕ} → StandsFor nodes (Kept.Closed p) (event.Closed p)
  acted : {n : ℕ} {t : List ℕ} → slice_get nodes n ≡ Some (Act t) → StandsFor nodes (Kept.Acted n) (event.Acted t)

-- kept events, one for each event
pub data StandFor (nodes : List Shape) : List Kept → List event.Event → Type 0 where
  no_event : StandFor nodes [] []
  one_event : {k : Kept} {e : event.Event} {kept : List Kept} {events : List event.Event} → StandsFor nodes k e →
      StandFor nodes kept events → StandFor nodes (k ∷ kept) (e ∷ events)

-- the outcome of what was found, with these events
abbrev pub outcome_of : Found → List event.Event → Outcome
outcome_of Found.Failed events = Fails
outcome_of (Found.Took end) events = Takes end events

-- the outcome of what was found without events
abbrev pub quiet_outcome : Found → Outcome
quiet_outcome found = outcome_of found []

-- the node spells an expression
abbrev pub SpellsSome : List Rule → List Shape → ℕ → Type 0
SpellsSome rules nodes n = (e : Pattern) × Spells rules nodes n e

-- A success adds its events, and a failure none.
abbrev pub MatchesBy : List Shape → (Outcome → ℕ → Type 0) → Found → ℕ → List Kept → List Kept → Type 0
MatchesBy nodes Gives' Found.Failed looked old new = Gives' Fails looked × (new ≡ old)
MatchesBy nodes Gives' (Found.Took end) looked old new =
    (added : List Kept) × (events : List event.Event) × StandFor nodes added events × Gives' (Takes end events) looked
    × (new ≡ old ++ added)

-- What was found for a node at a position is what the expression that it spells gives there.
abbrev pub IsMatch : List Rule → List Shape → List ℕ → ℕ → ℕ → Tried → List Kept → List Kept → Type 0
IsMatch rules nodes x n p tried old new =
    (e : Pattern) → Spells rules nodes n e → MatchesBy nodes (Gives rules x e p) tried.found tried.looked old new

-- likewise for a node that repeats the operand, makes it optional or looks ahead at it: `form` makes its expression of
-- the operand's
abbrev pub IsMatchOver : (Pattern → Pattern) → List Rule → List Shape → List ℕ → ℕ → ℕ → Tried → List Kept → List Kept
    → Type 0
IsMatchOver form rules nodes x m p tried old new =
    (e : Pattern) → Spells rules nodes m e → MatchesBy nodes (Gives rules x (form e) p) tried.found tried.looked old new

-- What was found for a node at a position is what its expression gives there, with some events.
abbrev pub IsSeen : List Rule → List Shape → List ℕ → ℕ → ℕ → Tried → Type 0
IsSeen rules nodes x n p tried =
    (e : Pattern) → Spells rules nodes n e → (events : List event.Event)
    × Gives rules x e p (outcome_of tried.found events) tried.looked

-- what was found for the members of a sequence
abbrev pub IsMatchOfAll : List Rule → List Shape → List ℕ → List ℕ → ℕ → Tried → List Kept → List Kept → Type 0
IsMatchOfAll rules nodes x ns p tried old new =
    (es : Patterns) → SpellAll rules nodes ns es → MatchesBy nodes (GivesAll rules x es p) tried.found tried.looked
    old new

-- likewise for the alternatives of a choice
abbrev pub IsMatchOfFirst : List Rule → List Shape → List ℕ → List ℕ → ℕ → Tried → List Kept → List Kept → Type 0
IsMatchOfFirst rules nodes x ns p tried old new =
    (es : Patterns) → SpellAll rules nodes ns es → MatchesBy nodes (GivesFirst rules x es p) tried.found tried.looked
    old new

-- A success ends in the input.
abbrev pub EndsWithin : Found → ℕ → Type 0
EndsWithin Found.Failed n = Unit {0}
EndsWithin (Found.Took end) n = end ≤ n

-- Only a success leaves events.
abbrev pub IsEmptyUnlessTook : {E : Type 0} → Result UnitAnswer E → List Kept → Type 0
IsEmptyUnlessTook (Ok (unit.Took end begun)) kept = Unit {0}
IsEmptyUnlessTook (Ok (unit.Failed begun)) kept = kept ≡ []
IsEmptyUnlessTook (Ok unit.Need) kept = kept ≡ []
IsEmptyUnlessTook (Err e) kept = kept ≡ []
