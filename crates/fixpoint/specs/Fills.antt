-- Distances and chains that are not whole yet. It serves private helpers alone.
use Rattle.std.specs.Prelude.{◌≡◌, ◌⊎◌, ◌↔◌, ℕ, suc, ◌+◌, ◌<◌, ◌≤◌, List, [], ◌∷◌, ◌++◌, length, Option, Some, None}
use Rattle.std.specs.Prelude.{Contains, MatchOption}
use Rattle.fixpoint.specs.StepRows.{Step}
use Rattle.fixpoint.specs.Way.{At}
use Rattle.fixpoint.specs.Distances.{Steps}
use Rattle.fixpoint.specs.ShortChains.{Back, Nearer}
use Rattle.fixpoint.specs.declared.rounds.Near.{Near}

-- how many numbers have no distance
abbrev pub untold_count : List (Option ℕ) → ℕ
untold_count [] = 0
untold_count (None ∷ far) = untold_count far + 1
untold_count (Some d ∷ far) = untold_count far

-- each number of the row has a distance now: those newly met that one, and they stand at the end of the queue
pub record Queues (row : List ℕ) (d : ℕ) (far : List (Option ℕ)) (queue : List ℕ) (far' : List (Option ℕ))
    (queue' : List ℕ) : Type 0 where
  pub count : length far' ≡ length far
  pub added : List ℕ
  pub is : queue' ≡ queue ++ added
  pub kept : (v n : ℕ) → At far v (Some n) → At far' v (Some n)
  pub only : (v n : ℕ) → At far' v (Some n) → At far v (Some n) ⊎ (Contains row v × (n ≡ d) × Contains added v)
  pub all : (v : ℕ) → Contains row v → (n : ℕ) × At far' v (Some n)
  pub new : (v : ℕ) → Contains added v → At far' v (Some d)
  pub left : untold_count far' + length queue' ≡ untold_count far + length queue

-- the steps from a number lead to numbers that are at most one step farther
abbrev pub LeadsNear : List (List ℕ) → List (Option ℕ) → ℕ → ℕ → Type 0
LeadsNear rows far v n = (m : ℕ) → Step rows v m → (d : ℕ) × At far m (Some d) × (d ≤ n + 1)

-- a number stands in the queue, from the head on
pub record Waits (queue : List ℕ) (head v : ℕ) : Type 0 where
  pub position : ℕ
  pub after : head ≤ position
  pub at : At queue position v

module _ (rows : List (List ℕ)) (s : ℕ) where
  -- what the queue has come to
  pub record IsFilling (far : List (Option ℕ)) (queue : List ℕ) (head : ℕ) : Type 0 where
    pub count : length far ≡ length rows
    pub within : head ≤ length queue
    pub start : At far s (Some 0)
    pub sound : (v n : ℕ) → At far v (Some n) → Steps rows s v n
    pub done : (v n : ℕ) → At far v (Some n) → Waits queue head v ⊎ LeadsNear rows far v n
    pub queued : (p v : ℕ) → At queue p v → (n : ℕ) × At far v (Some n) × (n ≤ p)
    pub sorted : (p q v w i j : ℕ) → head ≤ p → p ≤ q → At queue p v → At queue q w → At far v (Some i)
        → At far w (Some j) → i ≤ j
    pub near : (p v w i j : ℕ) → head ≤ p → At queue p v → At far v (Some i) → At far w (Some j) → j ≤ i + 1

  -- the numbers below i are recorded as predecessors of others
  pub record AreBacksTo (backs : List (Option ℕ)) (i : ℕ) : Type 0 where
    pub count : length backs ≡ length rows
    pub sound : (v u : ℕ) → At backs v (Some u) → Back rows s v u
    pub whole : (v u : ℕ) → u < i → Nearer rows s v u → (w : ℕ) × At backs v (Some w)

-- the second number is one step farther than the first
pub record IsNext (far : List (Option ℕ)) (n m : ℕ) : Type 0 where
  pub d : ℕ
  pub first : At far n (Some d)
  pub second : At far m (Some (suc d))

-- n is recorded as the predecessor of each number of the row that is one step farther and had none
pub record SetsBacks (far : List (Option ℕ)) (n : ℕ) (row : List ℕ) (backs backs' : List (Option ℕ)) : Type 0 where
  pub count : length backs' ≡ length backs
  pub kept : (v u : ℕ) → At backs v (Some u) → At backs' v (Some u)
  pub only : (v u : ℕ) → At backs' v (Some u)
      → At backs v (Some u) ⊎ ((u ≡ n) × Contains row v × IsNext far n v × At backs v None)
  pub all : (v : ℕ) → Contains row v → IsNext far n v → (u : ℕ) × At backs' v (Some u)

-- of the numbers from n down a chain to `at` each follows the next on the chain; `at` itself is left out
pub data Down (rows : List (List ℕ)) (s n : ℕ) : ℕ → List ℕ → Type 0 where
  top : Down rows s n n []
  below : {at u : ℕ} {ns : List ℕ} → Down rows s n at ns → Back rows s at u → Down rows s n u (ns ++ at ∷ [])

-- of the numbers below i from which a step leads to s the one that is nearest, and of these the least
pub record IsNearestBelow (rows : List (List ℕ)) (s : ℕ) (far : List (Option ℕ)) (i u n : ℕ) : Type 0 where
  pub below : u < i
  pub at : At far u (Some n)
  pub step : Step rows u s
  pub nearest : (w m : ℕ) → w < i → At far w (Some m) → Step rows w s → n ≤ m
  pub first : (w : ℕ) → w < i → At far w (Some n) → Step rows w s → u ≤ w

-- the distance is less than that of the one so far, if there is one
abbrev pub IsLess : ℕ → Option Near → Type 0
IsLess far None = Unit {0}
IsLess far (Some best) = far < best.far

-- if there is one
abbrev pub IsNearestIfAny : List (List ℕ) → ℕ → List (Option ℕ) → ℕ → Option Near → Type 0
IsNearestIfAny rows s far i near = MatchOption near
    ((w m : ℕ) → w < i → At far w (Some m) → Step rows w s → ⊥) (λ u. IsNearestBelow rows s far i u.number u.far)

-- the entry of a number in a list
abbrev pub EntryIs : List (Option ℕ) → ℕ → Option ℕ → Type 0
EntryIs list n reported = (u : ℕ) → At list n (Some u) ↔ (reported ≡ Some u)
