-- What a task gives.
use Rattle.std.specs.Prelude.{◌≡◌, ℕ, Bool, List, [], ◌∷◌, ◌++◌, drop, slice_get, Some}
use Rattle.pegread.specs.PegViews.{rules_of}
use Rattle.gramcheck.specs.Grammar.{Grammar}
use Rattle.pegnodes.specs.Nodes.{Shape, Any, Bytes, Set, Name, Seq, Choice, Star, Plus, Opt, And, Not, Act, Open}
use Rattle.pegnodes.specs.Nodes.{Close, shapes_of}
use Rattle.gramcheck.specs.Outcome.{Event, Takes, Fails}
use Rattle.memo.specs.declared.found.Found.{Found}
use Rattle.memo.specs.declared.found.Found.TheVariants.{Failed, Took}
use Rattle.pegmatch.specs.Answers.{WasEnough}
use Rattle.pegmatch.specs.KeptEvents.{outcome_of}
use Rattle.pegmatch.specs.Visits.{NodeGives}
use Rattle.memo.specs.declared.key_log.Stored.{Stored}
use Rattle.memo.specs.declared.task.MatchTask.{MatchTask}
use Rattle.memo.specs.declared.task.MatchTask.TheVariants.{Eval, Tail}
use Rattle.memo.specs.Parts.{IsIn}

-- the events of what came first and of what came then, where that is the outcome: a failure has none
abbrev pub joined : Found → List Event → List Event → List Event
joined Failed first then = []
joined (Took q) first then = first ++ then

-- a failure has no events
abbrev pub IsQuiet : Found → List Event → Type 0
IsQuiet Failed events = events ≡ []
IsQuiet (Took q) events = Unit {0}

module _ (g : Grammar) (x : List ℕ) (more : Bool) where
  -- node m takes what is between p and q with these events, and the window is long enough for that
  pub record TakesWithin (m p q : ℕ) (events : List Event) : Type 0 where
    pub looked : ℕ
    pub gives : NodeGives (rules_of g.rules) (shapes_of g.nodes) g.bodies x m p (Takes q events) looked
    pub enough : WasEnough x more looked

  -- node m fails at p, likewise
  pub record FailsWithin (m p : ℕ) : Type 0 where
    pub looked : ℕ
    pub gives : NodeGives (rules_of g.rules) (shapes_of g.nodes) g.bodies x m p Fails looked
    pub enough : WasEnough x more looked

  -- the members in order, each from the position of the one before, with the events of all
  pub data MembersGive : List ℕ → ℕ → Found → List Event → Type 0 where
    members_none : {p : ℕ} → MembersGive [] p (Took p) []
    members_fail : {m p : ℕ} {ms : List ℕ} → FailsWithin m p → MembersGive (m ∷ ms) p Failed []
    members_take : {m p q : ℕ} {ms : List ℕ} {f : Found} {first then : List Event}
        → TakesWithin m p q first → MembersGive ms q f then → MembersGive (m ∷ ms) p f (joined f first then)

  -- the first alternative that succeeds, with its events
  pub data AlternativesGive (p : ℕ) : List ℕ → Found → List Event → Type 0 where
    alternatives_none : AlternativesGive p [] Failed []
    alternatives_take : {m q : ℕ} {ms : List ℕ} {events : List Event}
        → TakesWithin m p q events → AlternativesGive p (m ∷ ms) (Took q) events
    alternatives_fail : {m : ℕ} {ms : List ℕ} {f : Found} {events : List Event}
        → FailsWithin m p → AlternativesGive p ms f events → AlternativesGive p (m ∷ ms) f events

  abbrev pub TailGives : Shape → ℕ → ℕ → Found → List Event → Type 0
  TailGives Any i p f events = ⊥
  TailGives (Bytes bs) i p f events = ⊥
  TailGives (Set s) i p f events = ⊥
  TailGives (Name id) i p f events = ⊥
  TailGives (Seq ms) i p f events = MembersGive (drop i ms) p f events
  TailGives (Choice ms) i p f events = AlternativesGive p (drop i ms) f events
  TailGives (Star k) i p f events = ⊥
  TailGives (Plus k s) i p f events = ⊥
  TailGives (Opt k) i p f events = ⊥
  TailGives (And k) i p f events = ⊥
  TailGives (Not k) i p f events = ⊥
  TailGives (Act t) i p f events = ⊥
  TailGives Open i p f events = ⊥
  TailGives Close i p f events = ⊥

  -- What a task gives, with these events, where the window is long enough for that: a node its outcome, and a tail that
  -- of its members.
  abbrev pub TaskYields : MatchTask → Found → List Event → Type 0
  TaskYields (Eval n p) f events = (looked : ℕ)
      × NodeGives (rules_of g.rules) (shapes_of g.nodes) g.bodies x n p (outcome_of f events) looked
      × WasEnough x more looked × IsQuiet f events
  TaskYields (Tail n i p) f events =
      (shape : Shape) × (slice_get (shapes_of g.nodes) n ≡ Some shape) × TailGives shape i p f events

  -- what a task gives, with some events
  abbrev pub TaskGives : MatchTask → Found → Type 0
  TaskGives a f = (events : List Event) × TaskYields a f events

  -- each stored key has what it gives
  pub record AreRight (stored : List Stored) : Type 0 where
    pub right : (s : Stored) → IsIn s stored → TaskGives s.task s.given.found
