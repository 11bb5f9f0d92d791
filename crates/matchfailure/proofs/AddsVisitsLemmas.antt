-- Lists of evaluations to which one is added.
-- Serves: farthest_failure
use Rattle.std.proofs.Common.{◌≡◌, ◌⊎◌, inl, inr, ℕ, zero, suc, List, [], ◌∷◌, ◌++◌, length, Some, refl, ap}
use Rattle.std.specs.Prelude.{slice_get}
use Rattle.matchfailure.specs.declared.farthest.visit.Visit.{Visit}

abbrev pub visit : ℕ → ℕ → Visit
visit n p = record { node = n; position = p }

pub is_visit : (v : Visit) (n p : ℕ) → v.node ≡ n → v.position ≡ p → v ≡ visit n p
is_visit v n p a b = λ i. record { node = a i; position = b i }

pub get_kept : (vs : List Visit) (w v : Visit) (k : ℕ) → slice_get vs k ≡ Some v → slice_get (vs ++ w ∷ []) k ≡ Some v
get_kept [] w v k h = absurd (cc h)
get_kept (u ∷ vs) w v zero h = h
get_kept (u ∷ vs) w v (suc k) h = get_kept vs w v k h

pub get_cases : (vs : List Visit) (w v : Visit) (k : ℕ) → slice_get (vs ++ w ∷ []) k ≡ Some v
    → (slice_get vs k ≡ Some v) ⊎ ((k ≡ length vs) × (w ≡ v))
get_cases [] w v zero h = inr (refl, cc h)
get_cases [] w v (suc k) h = absurd (cc h)
get_cases (u ∷ vs) w v zero h = inl h
get_cases (u ∷ vs) w v (suc k) h = elim (get_cases vs w v k h) [
  | inl is ↦ inl is
  | inr is ↦ inr (ap suc is.0, is.1)
]
