-- Members of lists, by number.
-- Serves: Flat::new, lower, judge.
use Rattle.std.proofs.Common.{◌≡◌, ℕ, zero, suc, ◌<◌, List, [], ◌∷◌, ◌++◌, length, refl, ap, arith, ⊎_elim, ◌⊎◌, inl}
use Rattle.std.proofs.Common.{inr, set}
use Rattle.std.specs.Prelude.{slice_get, Some}

pub get_below : {A : Type 0} (xs : List A) (k : ℕ) {y : A} → slice_get xs k ≡ Some y → k < length xs
get_below [] k is = absurd cc
get_below (x ∷ xs) zero is = omega arith
get_below (x ∷ xs) (suc k) is = omega (arith, get_below xs k is)

pub push_cases : {A : Type 0} (xs : List A) (a : A) (n : ℕ) (b : A) → slice_get (xs ++ a ∷ []) n ≡ Some b
    → (slice_get xs n ≡ Some b) ⊎ ((n ≡ length xs) × (a ≡ b))
push_cases [] a zero b h = inr (refl, cc h)
push_cases [] a (suc n) b h = absurd (cc h)
push_cases (x ∷ xs) a zero b h = inl h
push_cases (x ∷ xs) a (suc n) b h = ⊎_elim (λ k. inl k) (λ k. inr (ap (λ v. suc v) k.0, k.1)) (push_cases xs a n b h)

pub get_kept : {A : Type 0} (xs ys : List A) (n : ℕ) {a : A} → slice_get xs n ≡ Some a → slice_get (xs ++ ys) n ≡ Some a
get_kept [] ys n h = absurd (cc h)
get_kept (x ∷ xs) ys zero h = h
get_kept (x ∷ xs) ys (suc n) h = get_kept xs ys n h

pub get_there : {A : Type 0} (xs : List A) (k : ℕ) → k < length xs → (y : A) × (slice_get xs k ≡ Some y)
get_there [] k lt = absurd (omega arith)
get_there (x ∷ xs) zero lt = (x, refl)
get_there (x ∷ xs) (suc k) lt = get_there xs k (omega arith)

-- a member of a list in which one was replaced
pub set_cases : {A : Type 0} (xs : List A) (i k : ℕ) (v x : A) → slice_get (set xs i v) k ≡ Some x
    → ((k ≡ i) × (v ≡ x)) ⊎ ((k ≡ i → ⊥) × (slice_get xs k ≡ Some x))
set_cases [] i k v x h = absurd (cc h)
set_cases (y ∷ xs) zero zero v x h = inl (refl, cc h)
set_cases (y ∷ xs) zero (suc k) v x h = inr (λ e. absurd (omega (arith, e)), h)
set_cases (y ∷ xs) (suc i) zero v x h = inr (λ e. absurd (omega (arith, e)), h)
set_cases (y ∷ xs) (suc i) (suc k) v x h = ⊎_elim (λ c. inl (ap (λ n. suc n) c.0, c.1))
    (λ c. inr ((λ e. c.0 (omega (arith, e))), c.1)) (set_cases xs i k v x h)
