-- The table of predictions grows with them.
-- Serves: judge.
use Rattle.std.proofs.Common.{◌≡◌, ℕ, zero, suc, ◌<◌, ◌⊎◌, inl, inr, List, [], ◌∷◌, ◌++◌, length, set, Some, refl, ap}
use Rattle.std.proofs.Common.{◌∙◌, arith, slice_get}
use Rattle.flatgrammar.specs.Positions.{In}
use Rattle.flatgrammar.proofs.SliceGetLemmas.{push_cases}
use Rattle.earleyitems.specs.PredictionTables.{IsTable}
use Rattle.earleyitems.proofs.AreBucketsLemmas.{keeps_get, get_in}

set_here : (xs : List ℕ) (i v : ℕ) → i < length xs → slice_get (set xs i v) i ≡ Some v
set_here [] i v lt = absurd (omega (arith, lt))
set_here (x ∷ xs) zero v lt = refl
set_here (x ∷ xs) (suc i) v lt = set_here xs i v (let less : i < length xs = omega (arith, lt) in less)

set_other : (xs : List ℕ) (i j v : ℕ) → (j ≡ i → ⊥) → slice_get (set xs i v) j ≡ slice_get xs j
set_other [] i j v other = refl
set_other (x ∷ xs) zero zero v other = absurd (other refl)
set_other (x ∷ xs) zero (suc j) v other = refl
set_other (x ∷ xs) (suc i) zero v other = refl
set_other (x ∷ xs) (suc i) (suc j) v other = set_other xs i j v (λ same. other (ap suc same))

-- a longer table says the same
pub table_more : (list table more : List ℕ) → IsTable list table → IsTable list (table ++ more)
table_more list table more is i h e = keeps_get table more h i (is i h e)

pub table_push : (list table : List ℕ) (prediction : ℕ) → IsTable list table → (In prediction list → ⊥)
    → prediction < length table
    → IsTable (list ++ prediction ∷ []) (set table prediction (length list))
table_push list table prediction is apart lt i h e = by (push_cases list prediction i h e)
  where
    by : (slice_get list i ≡ Some h) ⊎ ((i ≡ length list) × (prediction ≡ h))
        → slice_get (set table prediction (length list)) h
        ≡ Some i
    by (inl f) = set_other table prediction h (length list)
        (λ same. apart (get_in prediction list i (f ∙ ap (λ v. Some v) same)))
        ∙ is i h f
    by (inr m) = rw (← m.1, m.0) (set_here table prediction (length list) lt)
