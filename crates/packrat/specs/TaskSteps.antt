-- The machine over tasks.
use Rattle.std.specs.Prelude.{◌≡◌, ℕ, zero, Bool, List, [], ◌∷◌, slice_get, Some}
use Rattle.pegread.specs.Pattern.{Rule}
use Rattle.pegnodes.specs.Nodes.{Shape}
use Rattle.memo.specs.declared.task.MatchTask.{MatchTask}
use Rattle.memo.specs.declared.task.MatchTask.TheVariants.{Eval, Tail}
use Rattle.pegnodes.specs.NodeWays.{Way, Leaf, Body, Members, Alternatives, Iterations, Operand, way_of}
use Rattle.packrat.specs.MatchTasks.{Kids, is_key}
use Rattle.packrat.specs.MachineSteps.{State, Steps}

module _ (rules : List Rule) (nodes : List Shape) (bodies x : List ℕ) where
  -- where node n at p leads first, whatever it takes
  abbrev pub FirstBy : Way → ℕ → ℕ → MatchTask → Type 0
  FirstBy Leaf n p b = ⊥
  FirstBy (Body id) n p b = (m : ℕ) × (slice_get bodies id ≡ Some m) × (b ≡ Eval m p)
  FirstBy (Members ms) n p b = (m : ℕ) × (slice_get ms zero ≡ Some m) × (b ≡ Tail n zero p)
  FirstBy (Alternatives ms) n p b = (m : ℕ) × (slice_get ms zero ≡ Some m) × (b ≡ Tail n zero p)
  FirstBy (Iterations k s) n p b = b ≡ Eval k p
  FirstBy (Operand k) n p b = b ≡ Eval k p

  abbrev pub TailFirstBy : Way → ℕ → ℕ → ℕ → MatchTask → Type 0
  TailFirstBy Leaf n i p b = ⊥
  TailFirstBy (Body id) n i p b = ⊥
  TailFirstBy (Members ms) n i p b = (m : ℕ) × (slice_get ms i ≡ Some m) × (b ≡ Eval m p)
  TailFirstBy (Alternatives ms) n i p b = (m : ℕ) × (slice_get ms i ≡ Some m) × (b ≡ Eval m p)
  TailFirstBy (Iterations k s) n i p b = ⊥
  TailFirstBy (Operand k) n i p b = ⊥

  abbrev pub IsFirst : MatchTask → MatchTask → Type 0
  IsFirst (Eval n p) b = (shape : Shape) × (slice_get nodes n ≡ Some shape) × FirstBy (way_of n shape) n p b
  IsFirst (Tail n i p) b = (shape : Shape) × (slice_get nodes n ≡ Some shape) × TailFirstBy (way_of n shape) n i p b

  -- What a task asks for next: the first without knowing anything, the second where it is one of two.
  pub data NextOf (a : MatchTask) : List MatchTask → MatchTask → Type 0 where
    next_first : {k : MatchTask} → IsFirst a k → NextOf a [] k
    next_second : {j k : MatchTask} → Kids rules nodes bodies x a (j ∷ (k ∷ [])) → NextOf a (j ∷ []) k

  abbrev pub TaskSteps : (ℕ → Bool) → (ℕ → ℕ → Bool) → State MatchTask → State MatchTask → Type 0
  TaskSteps marks tails s t = Steps MatchTask (Kids rules nodes bodies x) NextOf (is_key marks tails) s t
