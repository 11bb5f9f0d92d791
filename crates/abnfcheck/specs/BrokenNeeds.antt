-- Needs by which the names are found that reach one without a rule, or prose. Private helpers alone use it.
use Rattle.std.specs.Prelude.{◌≡◌, ℕ, ◌<◌, Bool, true, List, [], length, slice_get, slice_index_or, Some}
use Rattle.std.specs.Prelude.{if◌then◌else◌}
use Rattle.fixpoint.specs.Demands.{Demand, All, One}
use Rattle.fixpoint.specs.StepRows.{row_at}

-- at once, or one of the names in the body
abbrev pub broken_demand : Bool → List ℕ → Demand
broken_demand is_broken row = if is_broken then All [] else One row

-- Each of the first names needs one of those in the body of its rule; a name without a rule needs nothing, nor does
-- that of a rule that holds prose.
pub record AreBrokenNeedsTo (rows : List (List ℕ)) (prose : List Bool) (needs : List Demand) (count : ℕ) : Type 0 where
  pub count_is : length needs ≡ count
  pub needs_are : (n : ℕ) → n < count
      → slice_get needs n ≡ Some (broken_demand (slice_index_or prose n true) (row_at rows n))

-- all names do
abbrev pub AreBrokenNeeds : List (List ℕ) → List Bool → List Demand → Type 0
AreBrokenNeeds rows prose needs = AreBrokenNeedsTo rows prose needs (length rows)
