-- How a task goes on, in code: what it gives at once, and what it asks for.
use Rattle.std.specs.Prelude.{◌≡◌, ℕ, ◌+◌, ◌<◌, ◌≤◌, ◌==◌, get_or, List, [], ◌∷◌, length, slice_get, Some}
use Rattle.std.specs.Prelude.{Bool, true, false}
use Rattle.pegread.specs.PegViews.{rules_of}
use Rattle.gramcheck.specs.Grammar.{Grammar}
use Rattle.pegnodes.specs.KeyLists.{Marks, tail_marks}
use Rattle.pegnodes.specs.Nodes.{Shape, Any, Bytes, Set, Name, Seq, Choice, Star, Plus, Opt, And, Not, Act, Open}
use Rattle.pegnodes.specs.Nodes.{Close, shapes_of}
use Rattle.memo.specs.declared.found.Found.{Found}
use Rattle.memo.specs.declared.found.Found.TheVariants.{Took}
use Rattle.pegmatch.specs.Visits.{NodeGives}
use Rattle.gramcheck.specs.Outcome.{Event, Outcome}
use Rattle.pegmatch.specs.KeptEvents.{SpellsSome, StandsFor}
use Rattle.memo.specs.KeyLog.{position_of}
use Rattle.memo.specs.declared.task.MatchTask.{MatchTask}
use Rattle.memo.specs.declared.task.MatchTask.TheVariants.{Eval, Tail}
use Rattle.packrat.specs.TaskGives.{TaskYields, joined}
use Rattle.packrat.specs.MatchTasks.{Kids}
use Rattle.packrat.specs.declared.onward.Onward.{Onward}
use Rattle.packrat.specs.declared.onward.Onward.TheVariants.{Gives, Same, Passes, Enters}
use Rattle.packrat.specs.declared.onward.Start.{Start}
use Rattle.packrat.specs.declared.onward.Entering.{Entering}
use Rattle.packrat.specs.declared.onward.Start.TheVariants as start
use Rattle.packrat.specs.TaskSteps.{IsFirst}

abbrev pub HasMember : Shape → ℕ → Type 0
HasMember Any i = ⊥
HasMember (Bytes bs) i = ⊥
HasMember (Set s) i = ⊥
HasMember (Name id) i = ⊥
HasMember (Seq ms) i = i < length ms
HasMember (Choice ms) i = i < length ms
HasMember (Star k) i = ⊥
HasMember (Plus k s) i = ⊥
HasMember (Opt k) i = ⊥
HasMember (And k) i = ⊥
HasMember (Not k) i = ⊥
HasMember (Act t) i = ⊥
HasMember Open i = ⊥
HasMember Close i = ⊥

-- the tail that is entered, and its first member
abbrev pub tail_of : Entering → MatchTask
tail_of e = Tail e.node e.index e.position

abbrev pub member_of : Entering → MatchTask
member_of e = Eval e.member e.position

-- it says whether the tail is a key
abbrev pub IsTailMarked : Marks → Entering → Type 0
IsTailMarked marks e = e.key ≡ tail_marks marks e.node e.index

-- the tail of a node with these members, from this one on
abbrev pub entering_of : Marks → ℕ → List ℕ → ℕ → ℕ → Entering
entering_of marks n ms i p = record {
  node = n;
  index = i;
  position = p;
  member = get_or ms i 0;
  only = i + 1 == length ms;
  key = tail_marks marks n i;
}

-- if more bytes follow the window, the task stands before the window's end
abbrev pub IsNear : List ℕ → Bool → MatchTask → Type 0
IsNear x more a = more ≡ true → position_of a < length x

module _ (g : Grammar) (x : List ℕ) where
  -- a task of the grammar and the window
  abbrev pub IsWell : MatchTask → Type 0
  IsWell (Eval n p) = SpellsSome (rules_of g.rules) (shapes_of g.nodes) n × (p ≤ length x)
  IsWell (Tail n i p) = SpellsSome (rules_of g.rules) (shapes_of g.nodes) n × (p ≤ length x)
      × ((shape : Shape) × (slice_get (shapes_of g.nodes) n ≡ Some shape) × HasMember shape i)

  -- and such that if more bytes follow the window, it stands before the window's end
  abbrev pub IsHere : Bool → MatchTask → Type 0
  IsHere more a = IsWell a × IsNear x more a

  -- the node's own comparison reaches the last byte of a window that more bytes follow
  abbrev pub ReachesEnd : Bool → MatchTask → Type 0
  ReachesEnd more (Eval n p) = (more ≡ true) × ((o : Outcome)
      × NodeGives (rules_of g.rules) (shapes_of g.nodes) g.bodies x n p o (length x))
  ReachesEnd more (Tail n i p) = ⊥

  module _ (more : Bool) where
    -- a task that has asked for these, with b last, gives what b gives, with these events before those of b
    abbrev pub PassesOn : MatchTask → List MatchTask → MatchTask → List Event → Type 0
    PassesOn a asked b first = Kids (rules_of g.rules) (shapes_of g.nodes) g.bodies x a asked
        × ((f : Found) (then : List Event) → TaskYields g x more b f then
        → TaskYields g x more a f (joined f first then))

    -- a task leads to k first; if k is its only one, it gives what k gives
    abbrev pub IsLed : Bool → MatchTask → MatchTask → Type 0
    IsLed false a k = IsFirst (rules_of g.rules) (shapes_of g.nodes) g.bodies x a k × IsWell k
    IsLed true a k = IsFirst (rules_of g.rules) (shapes_of g.nodes) g.bodies x a k × IsWell k × PassesOn a (k ∷ []) k []

    abbrev pub AfterStart : MatchTask → Start → Type 0
    AfterStart a (start.Gives f) =
        Kids (rules_of g.rules) (shapes_of g.nodes) g.bodies x a [] × TaskYields g x more a f []
    AfterStart a (start.Marks kept) = Kids (rules_of g.rules) (shapes_of g.nodes) g.bodies x a []
        × ((event : Event) × StandsFor (shapes_of g.nodes) kept event
        × TaskYields g x more a (Took (position_of a)) (event ∷ []))
    AfterStart a (start.Leads n p) = IsLed false a (Eval n p)
    AfterStart a (start.Passes n p) = IsLed true a (Eval n p)
    AfterStart a (start.Enters e) =
        IsLed true a (tail_of e) × IsLed e.only (tail_of e) (member_of e) × IsTailMarked g.keys e

    -- after its first child j, a task asks for k, and gives what k gives, with these events before those of k
    abbrev pub GoesOn : MatchTask → MatchTask → List Event → MatchTask → Type 0
    GoesOn a j events k =
        PassesOn a (j ∷ (k ∷ [])) k events × IsWell k × (IsNear x more a → IsNear x more k)

    -- after its first child j, which gave this with these events
    abbrev pub AfterOne : MatchTask → MatchTask → Found → List Event → Onward → Type 0
    AfterOne a j found events (Gives f) =
        Kids (rules_of g.rules) (shapes_of g.nodes) g.bodies x a (j ∷ []) × TaskYields g x more a f []
    AfterOne a j found events Same =
        Kids (rules_of g.rules) (shapes_of g.nodes) g.bodies x a (j ∷ []) × TaskYields g x more a found events
    AfterOne a j found events (Passes n p) = GoesOn a j events (Eval n p)
    AfterOne a j found events (Enters e) =
        GoesOn a j events (tail_of e) × IsLed e.only (tail_of e) (member_of e) × IsTailMarked g.keys e
