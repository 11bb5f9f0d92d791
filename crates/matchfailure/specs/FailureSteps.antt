-- The steps of a task.
use Rattle.std.specs.Prelude.{◌≡◌, ◌⊎◌, ℕ, Bool, List, Option, Some, None}
use Rattle.gramcheck.specs.Grammar.{Grammar}
use Rattle.memo.specs.declared.found.Found.{Found}
use Rattle.memo.specs.declared.task.MatchTask.{MatchTask}
use Rattle.matchfailure.specs.FailureTasks.{IsFirst, IsWell, NodeFinds, TaskAsks, TaskFinds, TaskHas}
use Rattle.matchfailure.specs.declared.farthest.visit.Visit.{Visit}
use Rattle.matchfailure.specs.declared.tasks.steps.TaskStep.{TaskStep}
use Rattle.matchfailure.specs.declared.tasks.steps.TaskStep.TheVariants.{Gives, Becomes, Asks}

-- the evaluation of node m at q was asked for
abbrev pub WasAsked : Option Visit → ℕ → ℕ → Type 0
WasAsked None m q = ⊥
WasAsked (Some v) m q = (m ≡ v.node) × (q ≡ v.position)

module _ (g : Grammar) (x : List ℕ) where
  -- task a gives what task b gives, and asks for no more than what was asked for and the evaluations of b
  pub record BecomesTask (asked : Option Visit) (a b : MatchTask) : Type 0 where
    pub well : IsWell g x b
    pub finds : (f : Found) → TaskFinds g x b f → TaskFinds g x a f
    pub whole : (m q : ℕ) → TaskAsks g x a m q → WasAsked asked m q ⊎ TaskHas g x b m q
    pub only : (m q : ℕ) → TaskHas g x b m q → TaskAsks g x a m q

  -- a step of a task that has asked for this
  abbrev pub IsStepAfter : Option Visit → MatchTask → TaskStep → Type 0
  IsStepAfter asked a (Gives f) = TaskFinds g x a f × ((m q : ℕ) → TaskAsks g x a m q → WasAsked asked m q)
  IsStepAfter asked a (Becomes b) = BecomesTask asked a b
  IsStepAfter asked a (Asks k q denied) = IsFirst g a k q denied

  -- the first step of a task
  abbrev pub IsBegun : MatchTask → TaskStep → Type 0
  IsBegun a step = IsStepAfter None a step

  -- the step of a task whose first child has this outcome
  abbrev pub GoesOn : MatchTask → Found → TaskStep → Type 0
  GoesOn a found step = (k q : ℕ) (denied : Bool) → IsFirst g a k q denied → NodeFinds g x k q found
      → IsStepAfter (Some (record { node = k; position = q })) a step
