-- How many steps lead from one number to another at least.
use Rattle.std.specs.Prelude.{◌≡◌, ℕ, suc, ◌≤◌, List, length, Option, Some}
use Rattle.fixpoint.specs.StepRows.{Step}
use Rattle.fixpoint.specs.Way.{At}

module _ (rows : List (List ℕ)) (s : ℕ) where
  -- a chain of so many steps leads from s to a number
  pub data Steps : ℕ → ℕ → Type 0 where
    no_step : Steps s 0
    one_more : {u v n : ℕ} → Steps u n → Step rows u v → Steps v (suc n)

  -- a chain of n steps leads from s to v, and none of fewer
  pub record Distance (v n : ℕ) : Type 0 where
    pub chain : Steps v n
    pub least : (m : ℕ) → Steps v m → n ≤ m

  -- of each number that a chain reaches its distance from s, and of the others none
  pub record AreDistances (far : List (Option ℕ)) : Type 0 where
    pub count : length far ≡ length rows
    pub sound : (v n : ℕ) → At far v (Some n) → Distance v n
    pub whole : (v n : ℕ) → Steps v n → (d : ℕ) × At far v (Some d)
