-- Where the loop stands on its way.
use Rattle.std.specs.Prelude.{◌≡◌, ◌⊎◌, ℕ, ◌+◌, ◌-◌, ◌<◌, Bool, true, false, List, [], ◌∷◌, ◌++◌, Option, Some, None}
use Rattle.pegread.specs.PegViews.{rules_of}
use Rattle.gramcheck.specs.Grammar.{Grammar}
use Rattle.pegnodes.specs.Nodes.{Shape, shapes_of}
use Rattle.gramcheck.specs.Outcome.{Event}
use Rattle.pegmatch.specs.KeptEvents.{StandFor}
use Rattle.pegmatch.specs.declared.event.Kept.{Kept}
use Rattle.packrat.specs.EventLog.{IsHead, kept_at}
use Rattle.packrat.specs.declared.events.link.Link.{Link}
use Rattle.memo.specs.declared.found.Found.{Found}
use Rattle.memo.specs.declared.found.Found.TheVariants.{Failed, Took}
use Rattle.memo.specs.declared.key_log.Given.{Given}
use Rattle.memo.specs.Parts.{IsIn}
use Rattle.pegnodes.specs.KeyLists.{Marks}
use Rattle.memo.specs.declared.key_log.Stored.{Stored}
use Rattle.memo.specs.declared.task.MatchTask.{MatchTask}
use Rattle.memo.specs.declared.task.MatchTask.TheVariants.{Eval}
use Rattle.packrat.specs.TaskGives.{TaskYields, IsQuiet, AreRight}
use Rattle.pegnodes.specs.KeyLists.{node_marks, tail_marks}
use Rattle.memo.specs.KeyLog.{tasks_of}
use Rattle.memo.specs.Run.{Run, total}
use Rattle.packrat.specs.MatchTasks.{Kids, is_key}
use Rattle.packrat.specs.View.{weight}
use Rattle.packrat.specs.declared.frames.Frame.{Frame}
use Rattle.packrat.specs.declared.frames.Wait.{Wait}
use Rattle.packrat.specs.declared.frames.Wait.TheVariants.{First, Last, Turned}
use Rattle.packrat.specs.LoopIterations.{Iteration, Ask, Answer, iteration_of}
use Rattle.packrat.specs.declared.machine.Next.{Next}
use Rattle.packrat.specs.declared.machine.Next.TheVariants as next
use Rattle.packrat.specs.MachineSteps.{Level, State, Asks, Works, start_at, store}
use Rattle.packrat.specs.Onward.{IsWell, IsNear, IsHere, ReachesEnd, PassesOn, tail_of, member_of}
use Rattle.packrat.specs.declared.onward.Entering.{Entering}
use Rattle.packrat.specs.ByteGives.{iterations_on}
use Rattle.packrat.specs.Turned.{AreTurned}
use Rattle.packrat.specs.IterationsLeft.{left}
use Rattle.packrat.specs.TaskSteps.{IsFirst, TaskSteps}

-- whether a task is a key
abbrev pub key_of : Marks → MatchTask → Bool
key_of marks a = is_key (node_marks marks) (tail_marks marks) a

abbrev pub state_of : Iteration → MatchTask → List (Level MatchTask) → List MatchTask → List MatchTask → State MatchTask
state_of (Ask a) b fs st bg = Asks b (record { levels = fs; stored = st; begun = bg })
state_of (Answer given) b fs st bg = Works (record { levels = fs; stored = st; begun = bg })

-- a head of a log, and what the events that it keeps stand for
pub record HeadStands (nodes : List Shape) (links : List Link) (head : ℕ) (events : List Event) : Type 0 where
  pub is : IsHead links head
  pub stands : StandFor nodes (kept_at links head) events

-- the kept events of what came first and of what came then, where that is the outcome
abbrev pub kept_joined : Found → List Kept → List Kept → List Kept
kept_joined Failed first then = []
kept_joined (Took q) first then = first ++ then

-- what is given in the new log: what was given in the old one, with the events of a head before it
pub record IsJoined (old new : List Link) (first : ℕ) (given all : Given) : Type 0 where
  pub found : all.found ≡ given.found
  pub is : IsHead new all.events
  pub kept : kept_at new all.events ≡ kept_joined given.found (kept_at old first) (kept_at old given.events)

-- the head that is waited with, if there is one
abbrev pub IsWaitHead : List Link → Wait → Type 0
IsWaitHead links First = Unit {0}
IsWaitHead links (Last head) = IsHead links head
IsWaitHead links (Turned last) = Unit {0}

-- The frames of a task that awaits its last child: it has one, unless it is no key and has no events so far.
abbrev pub AreWaiting : Bool → ℕ → MatchTask → List Frame → List Frame → Type 0
AreWaiting key head a old new = (new ≡ record { task = a; key = key; wait = Last head } ∷ old)
    ⊎ ((key ≡ false) × (head ≡ 0) × (new ≡ old))

-- The frames of a tail that leads to its member: it has one, unless the member is its last one, and it is no key.
abbrev pub AreEntered : Bool → Bool → MatchTask → List Frame → List Frame → Type 0
AreEntered true key a old new = AreWaiting key 0 a old new
AreEntered false key a old new = new ≡ record { task = a; key = key; wait = First } ∷ old

-- The tail is a key that is stored, and that is returned; or it begins, and its member is asked for.
abbrev pub IsEntered : List Stored → Entering → List Frame → List Frame → Iteration → Type 0
IsEntered stored e old new t =
    ((given : Given) × (e.key ≡ true) × IsIn (record { task = tail_of e; given = given }) stored
    × (t ≡ Answer given) × (new ≡ old))
    ⊎ ((e.key ≡ true → IsIn (tail_of e) (tasks_of stored) → ⊥) × (t ≡ Ask (member_of e))
    × AreEntered e.only e.key (tail_of e) old new)

module _ (g : Grammar) (x : List ℕ) (more : Bool) where
  -- a task gives this, and its head keeps its events
  pub record GivenBy (links : List Link) (a : MatchTask) (given : Given) : Type 0 where
    pub events : List Event
    pub yields : TaskYields g x more a given.found events
    pub quiet : IsQuiet given.found events
    pub head : HeadStands (shapes_of g.nodes) links given.events events

  -- each stored key has what it gives
  pub record AreGiven (links : List Link) (stored : List Stored) : Type 0 where
    pub given : (s : Stored) → IsIn s stored → GivenBy links s.task s.given

  -- Task a has asked for these, and awaits b: its first; or its last, to give what that one gives. Iterations of a
  -- repetition are not one task.
  abbrev pub Waiting : List Link → Wait → MatchTask → List MatchTask → MatchTask → Type 0
  Waiting links First a asked b =
      IsFirst (rules_of g.rules) (shapes_of g.nodes) g.bodies x a b × (asked ≡ b ∷ [])
  Waiting links (Last head) a asked b = (first : List Event) × HeadStands (shapes_of g.nodes) links head first
      × PassesOn g x more a asked b first
  Waiting links (Turned last) a asked b = ⊥

  abbrev pub IsIteration : List Link → Iteration → MatchTask → Type 0
  IsIteration links (Ask a) b = (a ≡ b) × IsWell g x b × IsNear x more b
  IsIteration links (Answer given) b = GivenBy links b given

  module _ (marks : Marks) where
    -- The levels await task b. A level has a frame, or is that of a task that is no key, and that only waits to give
    -- what its last one gives. The levels of iterations over bytes that decide them have one frame, which names the
    -- last position.
    pub data AreLevels (links : List Link) (root : MatchTask) : List Frame → List (Level MatchTask) → MatchTask
        → Type 0 where
      levels_none : AreLevels links root [] [] root
      levels_frame : {l : Frame} {b : MatchTask} {asked : List MatchTask} {ls : List Frame}
          {fs : List (Level MatchTask)}
          → IsHere g x more l.task → l.key ≡ key_of marks l.task → Waiting links l.wait l.task asked b
          → AreLevels links root ls fs l.task
          → AreLevels links root (l ∷ ls) (record { at = l.task; asked = asked } ∷ fs) b
      levels_passed : {a b : MatchTask} {asked : List MatchTask} {ls : List Frame} {fs : List (Level MatchTask)}
          → key_of marks a ≡ false → PassesOn g x more a asked b [] → AreLevels links root ls fs a
          → AreLevels links root ls (record { at = a; asked = asked } ∷ fs) b
      levels_turned : {s k p last count : ℕ} {ls : List Frame} {fs : List (Level MatchTask)}
          → AreTurned g x more marks s k p (last + 1) count → key_of marks (Eval s p) ≡ true → IsWell g x (Eval s p)
          → AreLevels links root ls fs (Eval s p)
          → AreLevels links root (record { task = Eval s p; key = true; wait = Turned last } ∷ ls)
          (iterations_on s k p (last + 1 - p) fs) (Eval s (last + 1))

    abbrev pub Comes : MatchTask → State MatchTask → Type 0
    Comes root s = TaskSteps (rules_of g.rules) (shapes_of g.nodes) g.bodies x (node_marks marks) (tail_marks marks)
        (start_at MatchTask root) s

    -- The machine comes to this state, from the root where nothing is stored.
    pub record Stands (root : MatchTask) (iteration : Iteration) (frames : List Frame) (stored : List Stored)
        (links : List Link)
        (count : ℕ) : Type 0 where
      pub levels : List (Level MatchTask)
      pub begun : List MatchTask
      pub task : MatchTask
      pub are : AreLevels links root frames levels task
      pub iterations : IsIteration links iteration task
      pub given : AreGiven links stored
      pub is : total MatchTask (Kids (rules_of g.rules) (shapes_of g.nodes) g.bodies x) (key_of marks) weight begun
          ≡ count
      pub steps : Comes root (state_of iteration task levels (tasks_of stored) begun)
      pub near : (n p : ℕ) → IsIn (Eval n p) begun → IsNear x more (Eval n p)

    -- a task that gives this is closed: a key is stored
    pub record IsClosed (links : List Link) (a : MatchTask) (given : Given) (old new : List Stored) : Type 0 where
      pub tasks : tasks_of new ≡ store MatchTask (key_of marks a) a (tasks_of old)
      pub keeps : GivenBy links a given → AreGiven links old → AreGiven links new

    -- The machine begins a task whose own comparison reaches the last byte of a window that more bytes follow.
    pub record NeedsMore (root : MatchTask) (stored : List Stored) (count : ℕ) : Type 0 where
      pub task : MatchTask
      pub levels : List (Level MatchTask)
      pub begun : List MatchTask
      pub is : total MatchTask (Kids (rules_of g.rules) (shapes_of g.nodes) g.bodies x) (key_of marks) weight
          (task ∷ begun)
          ≡ count
      pub steps : Comes root (Works (record { levels = levels; stored = tasks_of stored; begun = task ∷ begun }))
      pub reaches : ReachesEnd g x more task
      pub near : (n p : ℕ) → IsIn (Eval n p) (task ∷ begun) → IsNear x more (Eval n p)
      pub right : AreRight g x more stored

    -- what an iteration comes to; none where it needs more
    abbrev pub AreOn : MatchTask → Option Next → List Frame → List Stored → List Link → ℕ → Type 0
    AreOn root (Some next) frames stored links count = Stands root (iteration_of next) frames stored links count
    AreOn root None frames stored links count = NeedsMore root stored count

    -- an evaluation that ended with this
    pub record IsEnded (root : MatchTask) (given : Given) (frames : List Frame) (stored : List Stored)
        (links : List Link)
        (count : ℕ) : Type 0 where
      pub keys : AreGiven links stored
      pub gives : GivenBy links root given
      pub runs : Run MatchTask (Kids (rules_of g.rules) (shapes_of g.nodes) g.bodies x) (key_of marks) weight [] root
          (tasks_of stored) count
      pub empty : frames ≡ []

    -- what an evaluation ended with; none, and no frames, where it needs more
    abbrev pub IsEvaluated : MatchTask → Option Given → List Frame → List Stored → List Link → ℕ → Type 0
    IsEvaluated root (Some given) frames stored links count = IsEnded root given frames stored links count
    IsEvaluated root None frames stored links count = NeedsMore root stored count × (frames ≡ [])

-- an iteration lowers what is left, unless it needs more
abbrev pub LowersLeft : Grammar → List ℕ → Option Next → List Frame → ℕ → ℕ → Type 0
LowersLeft g x (Some next) frames begun before = left g x (iteration_of next) frames begun < before
LowersLeft g x None frames begun before = Unit {0}

-- the loop goes on with a child, or with a result that no frame awaits
abbrev pub IsUnawaited : Next → List Frame → Type 0
IsUnawaited (next.Ask n p) frames = Unit {0}
IsUnawaited (next.Answer given) frames = frames ≡ []
