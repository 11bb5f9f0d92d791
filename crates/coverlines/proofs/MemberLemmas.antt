-- Members of lists of any kind.
-- Serves: sites, rule_contexts, made_words, cover_lines
use Rattle.std.proofs.Common.{◌≡◌, ◌⊎◌, inl, inr, ⊎_elim, ℕ, zero, suc, ◌+◌, ◌<◌, ◌≤◌, List, [], ◌∷◌, ◌++◌, map, take}
use Rattle.std.proofs.Common.{get_or, length, Contains, refl, sym, ◌∙◌, ap, subst, arith, add-one}
use Rattle.std.proofs.Math.Seq.{take-suc}

module _ {A : Type 0} where
  pub first_in : (x : A) (xs : List A) → Contains (x ∷ xs) x
  first_in x xs = (0, omega arith, refl)

  pub later_in : (x y : A) (xs : List A) → Contains xs y → Contains (x ∷ xs) y
  later_in x y xs h = (suc h.0, omega (arith, h.1), h.2)

  pub member_cases : (x y : A) (xs : List A) → Contains (x ∷ xs) y → (x ≡ y) ⊎ Contains xs y
  member_cases x y xs (zero, lt, h) = inl h
  member_cases x y xs (suc k, lt, h) = inr (k, omega (arith, lt), h)

  pub none_in : (x : A) → Contains [] x → ⊥
  none_in x h = omega (arith, h.1)

  pub only_in : (x y : A) → Contains (x ∷ []) y → x ≡ y
  only_in x y h = ⊎_elim (λ is. is) (λ k. absurd (none_in y k)) (member_cases x y [] h)

  pub item_in : (xs : List A) (i : ℕ) (x : A) → i < length xs → x ≡ get_or xs i x → Contains xs x
  item_in xs i x lt is = (i, lt, sym is)

  pub taken_more : (xs : List A) (i : ℕ) (x : A) → i < length xs → x ≡ get_or xs i x
      → take (i + 1) xs ≡ take i xs ++ x ∷ []
  taken_more xs i x lt is = ap (λ (k : ℕ). take k xs) (add-one i) ∙ take-suc xs i x lt
      ∙ ap (λ y. take i xs ++ y ∷ []) (sym is)

  pub taken_past : (xs : List A) (n : ℕ) → length xs ≤ n → take n xs ≡ xs
  taken_past [] zero le = refl
  taken_past [] (suc n) le = refl
  taken_past (x ∷ xs) zero le = absurd (omega (arith, le))
  taken_past (x ∷ xs) (suc n) le = ap (λ v. x ∷ v) (taken_past xs n (omega (arith, le)))

module _ {A B : Type 0} (f : A → B) where
  pub mapped_in : (x : A) (xs : List A) → Contains xs x → Contains (map f xs) (f x)
  mapped_in x [] h = absurd (none_in x h)
  mapped_in x (y ∷ xs) h = ⊎_elim
      (λ is. subst (λ z. Contains (map f (y ∷ xs)) (f z)) is (first_in (f y) (map f xs)))
      (λ k. later_in (f y) (f x) (map f xs) (mapped_in x xs k)) (member_cases y x xs h)

  pub from_mapped : (y : B) (xs : List A) → Contains (map f xs) y → (x : A) × Contains xs x × (f x ≡ y)
  from_mapped y [] h = absurd (none_in y h)
  from_mapped y (x ∷ xs) h = ⊎_elim
      (λ is. (x, first_in x xs, is))
      (λ k. let m = from_mapped y xs k in (m.0, later_in x m.0 xs m.1, m.2)) (member_cases (f x) y (map f xs) h)
