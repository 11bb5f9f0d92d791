-- What an evaluation gives where the byte at its position decides it, and what its evaluation stores and begins.
use Rattle.std.specs.Prelude.{◌≡◌, ℕ, zero, suc, ◌+◌, ◌<◌, ◌≤◌, Bool, true, List, [], ◌∷◌}
use Rattle.pegread.specs.Pattern.{Rule}
use Rattle.pegnodes.specs.Nodes.{Shape}
use Rattle.gramcheck.specs.Outcome.{Event}
use Rattle.gramcheck.specs.Outcome as outcome
use Rattle.pegnodes.specs.declared.by_byte.ByteVerdict.{ByteVerdict}
use Rattle.pegnodes.specs.declared.by_byte.ByteVerdict.TheVariants.{Takes, Stays, Fails}
use Rattle.memo.specs.declared.found.Found.{Found}
use Rattle.memo.specs.declared.found.Found.TheVariants.{Failed, Took}
use Rattle.pegmatch.specs.KeptEvents.{quiet_outcome}
use Rattle.pegmatch.specs.Visits.{NodeGives}
use Rattle.memo.specs.Parts.{IsIn}
use Rattle.memo.specs.Run.{RunAll, total}
use Rattle.memo.specs.declared.task.MatchTask.{MatchTask}
use Rattle.memo.specs.declared.task.MatchTask.TheVariants.{Eval}
use Rattle.packrat.specs.MachineSteps.{Level, State, store}
use Rattle.packrat.specs.TaskSteps.{TaskSteps}
use Rattle.packrat.specs.MatchTasks.{Kids, is_key}
use Rattle.packrat.specs.View.{weight}

-- what is found at position p
abbrev pub found_by : ByteVerdict → ℕ → Found
found_by Takes p = Took (p + 1)
found_by Stays p = Took p
found_by Fails p = Failed

module _ (rules : List Rule) (nodes : List Shape) (bodies x : List ℕ) where
  -- The node gives this at position p, without events, and looks at no byte after that one.
  pub record GivesBy (n p : ℕ) (v : ByteVerdict) : Type 0 where
    pub looked : ℕ
    pub within : looked ≤ p + 1
    pub gives : NodeGives rules nodes bodies x n p (quiet_outcome (found_by v p)) looked

  -- A repetition takes what is between p and q, with these events, and looks no further than so.
  pub record RepeatsTo (s p q : ℕ) (events : List Event) (most : ℕ) : Type 0 where
    pub looked : ℕ
    pub within : looked ≤ most
    pub gives : NodeGives rules nodes bodies x s p (outcome.Takes q events) looked

  module _ (marks : ℕ → Bool) (tails : ℕ → ℕ → Bool) where
    -- The evaluation of a task stores nothing but itself, whatever was stored, and begins so many evaluations.
    pub record StoresItself (a : MatchTask) (count : ℕ) : Type 0 where
      pub kids : List MatchTask
      pub are : Kids rules nodes bodies x a kids
      pub below : ℕ
      pub runs : (old : List MatchTask)
          → RunAll MatchTask (Kids rules nodes bodies x) (is_key marks tails) weight old kids old below
      pub whole : weight a + below ≡ count

    -- The machine comes from one state to the other. Between them it begins those in front, which are so many
    -- evaluations at positions up to `most`.
    pub record ComesWith (s : State MatchTask) (to : List MatchTask → State MatchTask) (most count : ℕ) : Type 0 where
      pub front : List MatchTask
      pub is : total MatchTask (Kids rules nodes bodies x) (is_key marks tails) weight front ≡ count
      pub steps : TaskSteps rules nodes bodies x marks tails s (to front)
      pub near : (n p : ℕ) → IsIn (Eval n p) front → p ≤ most

-- An iteration of repetition s of node k at position p, which waits for the rest.
abbrev pub iteration_at : ℕ → ℕ → ℕ → Level MatchTask
iteration_at s k p = record { at = Eval s p; asked = Eval k p ∷ (Eval s (p + 1) ∷ []) }

-- n iterations from position a on, the last one first, above other levels
abbrev pub iterations_on : ℕ → ℕ → ℕ → ℕ → List (Level MatchTask) → List (Level MatchTask)
iterations_on s k a zero levels = levels
iterations_on s k a (suc n) levels = iteration_at s k (a + n) ∷ iterations_on s k a n levels

-- the evaluations of node k at n positions from a on, the last one first, in front of others where k is a key
abbrev pub operands_on : Bool → ℕ → ℕ → ℕ → List MatchTask → List MatchTask
operands_on key k a zero stored = stored
operands_on key k a (suc n) stored = store MatchTask key (Eval k (a + n)) (operands_on key k a n stored)

-- the evaluations of repetition s at n positions from a on, the first one first, likewise
abbrev pub iterations_closed : Bool → ℕ → ℕ → ℕ → List MatchTask → List MatchTask
iterations_closed key s a zero stored = stored
iterations_closed key s a (suc n) stored = iterations_closed key s a n (store MatchTask key (Eval s (a + n)) stored)

-- if the node is a key, none of its evaluations at these n positions is stored
abbrev pub AreFresh : Bool → ℕ → ℕ → ℕ → List MatchTask → Type 0
AreFresh key m a n stored = (i : ℕ) → i < n → key ≡ true → IsIn (Eval m (a + i)) stored → ⊥
