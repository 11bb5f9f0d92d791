-- Elements of a list that grows at its end.
-- Serves: check_peg
use Rattle.std.proofs.Common.{◌≡◌, ℕ, zero, suc, List, [], ◌∷◌, ◌++◌, length, map, Some, refl, ap, ⊎_elim, inl, inr}
use Rattle.std.proofs.Common.{◌⊎◌}
use Rattle.std.specs.Prelude.{slice_get}

module _ {A : Type 0} where
  pub push_cases : (xs : List A) (a : A) (n : ℕ) (b : A) → slice_get (xs ++ a ∷ []) n ≡ Some b
      → (slice_get xs n ≡ Some b) ⊎ ((n ≡ length xs) × (a ≡ b))
  push_cases [] a zero b h = inr (refl, cc h)
  push_cases [] a (suc n) b h = absurd (cc h)
  push_cases (x ∷ xs) a zero b h = inl h
  push_cases (x ∷ xs) a (suc n) b h = ⊎_elim (λ k. inl k) (λ k. inr (ap (λ v. suc v) k.0, k.1)) (push_cases xs a n b h)

-- an element of a mapped list is made of the list's own
pub mapped_from : {A B : Type 0} (f : A → B) (xs : List A) (i : ℕ) (b : B) → slice_get (map f xs) i ≡ Some b → (a : A)
    × (slice_get xs i ≡ Some a) × (f a ≡ b)
mapped_from f [] i b h = absurd (cc h)
mapped_from f (x ∷ xs) zero b h = (x, refl, cc h)
mapped_from f (x ∷ xs) (suc i) b h = mapped_from f xs i b h
