-- Chains of at least one step, and ranks.
use Rattle.std.specs.Prelude.{◌≡◌, ◌↔◌, ℕ, ◌<◌, ◌≤◌, Bool, List, length, slice_index_or}
use Rattle.fixpoint.specs.NumberMarks.{IsMarked}
use Rattle.fixpoint.specs.StepRows.{Step}

module _ (rows : List (List ℕ)) where
  -- a chain of at least one step leads from s to m
  pub data Leads (s : ℕ) : ℕ → Type 0 where
    one : {m : ℕ} → Step rows s m → Leads s m
    more : {n m : ℕ} → Leads s n → Step rows n m → Leads s m

  -- exactly those numbers are marked from which a chain of at least one step leads back to them
  abbrev pub AreCycleMarks : List Bool → Type 0
  AreCycleMarks marks = (n : ℕ) → IsMarked marks n ↔ Leads n n

-- each step from a number that isn't marked lowers the rank, and no rank exceeds the number of rows
pub record AreRanksBut (rows : List (List ℕ)) (marks : List Bool) (ranks : List ℕ) : Type 0 where
  pub count : length ranks ≡ length rows
  pub bound : (n : ℕ) → slice_index_or ranks n 0 ≤ length rows
  pub falls : (n m : ℕ) → (IsMarked marks n → ⊥) → Step rows n m → slice_index_or ranks m 0 < slice_index_or ranks n 0
