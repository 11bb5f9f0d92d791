-- What a failure machine holds on its way.
use Rattle.std.specs.Prelude.{◌≡◌, ◌⊎◌, ℕ, Bool, true, false, List, [], ◌∷◌, length, slice_get, Some}
use Rattle.gramcheck.specs.Grammar.{Grammar}
use Rattle.memo.specs.KeyLog.{LogView}
use Rattle.memo.specs.Parts.{IsIn}
use Rattle.memo.specs.declared.found.Found.{Found}
use Rattle.memo.specs.declared.key_log.Stored.{Stored}
use Rattle.memo.specs.declared.task.MatchTask.{MatchTask}
use Rattle.memo.specs.declared.task.MatchTask.TheVariants.{Eval, Tail}
use Rattle.pegnodes.specs.Nodes.{shapes_of}
use Rattle.pegread.specs.PegViews.{rules_of}
use Rattle.matchfailure.specs.FailureTasks.{IsFirst, IsOutside, IsWell, TaskAsks, TaskFinds, TaskHas}
use Rattle.matchfailure.specs.Farthest.{AsksOutside, FailsAt, LeafStops}
use Rattle.matchfailure.specs.KeptFailures.{IsRecorded}
use Rattle.matchfailure.specs.FailureSteps.{IsStepAfter, WasAsked}
use Rattle.matchfailure.specs.VisitLists.{ListsVisit}
use Rattle.matchfailure.specs.declared.farthest.visit.Visit.{Visit}
use Rattle.matchfailure.specs.declared.tasks.frames.TaskFrame.{TaskFrame}
use Rattle.matchfailure.specs.declared.tasks.kept.KeptFailures.{KeptFailures}
use Rattle.matchfailure.specs.declared.tasks.machine.NextTask.{NextTask}
use Rattle.matchfailure.specs.declared.tasks.machine.NextTask.TheVariants.{Ask, Answer}
use Rattle.matchfailure.specs.declared.tasks.steps.TaskStep.{TaskStep}
use Rattle.std.specs.Prelude.{Option}

-- whether a node that is asked for stands outside of `!`, where a `!` asks for it or not
abbrev pub side_under : (denied : Bool) → (outside : Bool) → Bool
side_under true outside = false
side_under false outside = outside

module _ (g : Grammar) (x : List ℕ) where
  -- The least relation in which an evaluation leads to itself and, if its node is no `!`, to what those lead to that it
  -- asks for.
  pub data LeadsOn : ℕ → ℕ → ℕ → ℕ → Type 0 where
    leads_here : {n p : ℕ} → LeadsOn n p n p
    leads_later : {n p m q k r : ℕ} → AsksOutside (rules_of g.rules) (shapes_of g.nodes) g.bodies x n p m q
        → LeadsOn m q k r → LeadsOn n p k r

  -- a task has an evaluation that leads to that of node k at r
  pub record TaskLeads (a : MatchTask) (k r : ℕ) : Type 0 where
    pub node : ℕ
    pub position : ℕ
    pub has : TaskHas g x a node position
    pub leads : LeadsOn node position k r

  -- the failing comparisons are recorded to which the task leads
  abbrev pub IsCovered : KeptFailures → MatchTask → Type 0
  IsCovered kept a = (k r f : ℕ) → TaskLeads a k r → LeafStops (shapes_of g.nodes) x k r f → IsRecorded kept k r f

  -- the failing comparison of a task's own node is recorded
  abbrev pub IsOwnRecorded : KeptFailures → MatchTask → Type 0
  IsOwnRecorded kept (Eval n p) = (f : ℕ) → LeafStops (shapes_of g.nodes) x n p f → IsRecorded kept n p f
  IsOwnRecorded kept (Tail n i p) = Unit {0}

  module _ (kept : KeptFailures) where
    -- task a gives what task b gives and, outside of `!`, leads to no more that is not recorded
    pub record PassesOn (outside : Bool) (a b : MatchTask) : Type 0 where
      pub finds : (f : Found) → TaskFinds g x b f → TaskFinds g x a f
      pub covers : outside ≡ true → (k r f : ℕ) → TaskLeads a k r → LeafStops (shapes_of g.nodes) x k r f
          → IsRecorded kept k r f ⊎ TaskLeads b k r

    -- the child that a task awaits first, for which task b is evaluated
    pub record AwaitsFirst (a : MatchTask) (outside : Bool) (b : MatchTask) (inner : Bool) : Type 0 where
      pub node : ℕ
      pub position : ℕ
      pub denied : Bool
      pub first : IsFirst g a node position denied
      pub passes : PassesOn inner (Eval node position) b
      pub side : inner ≡ side_under denied outside
      pub own : outside ≡ true → IsOwnRecorded kept a

    -- a task awaits the result of task b
    abbrev pub Awaits : (stores : Bool) → MatchTask → Bool → MatchTask → Bool → Type 0
    Awaits true a outside b inner = PassesOn outside a b × (inner ≡ outside)
    Awaits false a outside b inner = AwaitsFirst a outside b inner

    -- a frame awaits the result of task b
    pub record IsOn (frame : TaskFrame) (b : MatchTask) (inner : Bool) : Type 0 where
      pub well : IsWell g x frame.task
      pub outside : frame.outside ≡ true → IsOutside g x frame.task
      pub awaits : Awaits frame.stores frame.task frame.outside b inner

    -- The frames, the top first: the top awaits task b, each other one that of the frame above it. At the bottom the
    -- start rule's body is evaluated.
    pub data IsStack : List TaskFrame → MatchTask → Bool → Type 0 where
      stack_root : {n : ℕ} {b : MatchTask} → slice_get g.bodies g.start ≡ Some n → PassesOn true (Eval n 0) b
          → IsStack [] b true
      stack_on : {frame : TaskFrame} {fs : List TaskFrame} {b : MatchTask} {inner : Bool} → IsOn frame b inner
          → IsStack fs frame.task frame.outside → IsStack (frame ∷ fs) b inner

    -- a result of a task outside of `!`, or of any
    abbrev pub IsResult : MatchTask → Bool → Found → Type 0
    IsResult a outside f = TaskFinds g x a f × (outside ≡ true → IsCovered kept a)

    -- the next step
    abbrev pub IsNext : List TaskFrame → NextTask → Type 0
    IsNext frames (Ask a outside) = IsWell g x a × (outside ≡ true → IsOutside g x a) × IsStack frames a outside
    IsNext frames (Answer f) = (a : MatchTask) × (outside : Bool) × IsStack frames a outside × IsResult a outside f

    -- What is stored: the results of tasks. One that is marked covers its failing comparisons.
    pub record IsStored (log : LogView) : Type 0 where
      pub rows : log.rows ≡ length g.nodes
      pub right : (s : Stored) → IsIn s log.stored
          → TaskFinds g x s.task s.given.found × (s.given.events ≡ 1 → IsCovered kept s.task)

    -- the comparisons that are kept fail, and outside of `!`
    pub record AreFailures : Type 0 where
      pub fail : (v : Visit) → ListsVisit kept.visits.items v → (f : ℕ) × (kept.position ≡ Some f)
          × FailsAt (rules_of g.rules) (shapes_of g.nodes) g.bodies x g.start v.node v.position f
      pub some : (f : ℕ) → kept.position ≡ Some f → (v : Visit) × ListsVisit kept.visits.items v

  -- the state between two steps
  pub record Stands (log : LogView) (frames : List TaskFrame) (kept : KeptFailures) (now : NextTask) : Type 0 where
    pub stored : IsStored kept log
    pub failures : AreFailures kept
    pub next : IsNext kept frames now

  -- the state before the step of a task that has asked for this
  pub record IsReady (log : LogView) (frames : List TaskFrame) (kept : KeptFailures) (asked : Option Visit)
      (a : MatchTask) (outside : Bool) (now : TaskStep) : Type 0 where
    pub stored : IsStored kept log
    pub failures : AreFailures kept
    pub well : IsWell g x a
    pub outer : outside ≡ true → IsOutside g x a
    pub stack : IsStack kept frames a outside
    pub own : outside ≡ true → IsOwnRecorded kept a
    pub step : IsStepAfter g x asked a now
    pub covered : outside ≡ true → (m q : ℕ) → WasAsked asked m q → TaskAsks g x a m q → IsCovered kept (Eval m q)
