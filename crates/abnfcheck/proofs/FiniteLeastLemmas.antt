-- Whether a member of a finite list lies in a least set is decided.
-- Serves: derivation_is_decided.
use Rattle.std.proofs.Common.{◌≡◌, ℕ, zero, suc, ◌+◌, ◌<◌, ◌≤◌, Bool, true, false, List, [], ◌∷◌, length, refl, sym}
use Rattle.std.proofs.Common.{◌∙◌, ap, subst, arith, inl, inr, ◌⊎◌}
use Rattle.abnfcheck.specs.Decided.{Says}

-- a member of a list
pub data Listed {A : Type 0} : A → List A → Type 0 where
  first : {a b : A} {xs : List A} → a ≡ b → Listed a (b ∷ xs)
  further : {a b : A} {xs : List A} → Listed a xs → Listed a (b ∷ xs)

abbrev either : Bool → Bool → Bool
either true b = true
either false b = b

abbrev one_of : Bool → ℕ
one_of true = 1
one_of false = 0

one_at_most : (b : Bool) → one_of b ≤ 1
one_at_most true = omega arith
one_at_most false = omega arith

one_same_or_more : (b c : Bool) → (b ≡ true → c ≡ true) → (c ≡ b) ⊎ (one_of b < one_of c)
one_same_or_more true c h = inl (h refl)
one_same_or_more false true h = inr (omega arith)
one_same_or_more false false h = inl refl

module _ {A : Type 0} where
  -- how many of the list are in the set
  abbrev count : (A → Bool) → List A → ℕ
  count s [] = 0
  count s (x ∷ xs) = one_of (s x) + count s xs

  count_below : (s : A → Bool) (xs : List A) → count s xs ≤ length xs
  count_below s [] = omega arith
  count_below s (x ∷ xs) = let h = count_below s xs in let o = one_at_most (s x) in omega (arith, h, o)

  -- a larger set has more members, or is the same
  module _ (s t : A → Bool) (within : (x : A) → s x ≡ true → t x ≡ true) where
    here_too : (y : A) (xs : List A) → t y ≡ s y → ((x : A) → Listed x xs → t x ≡ s x) → (x : A) → Listed x (y ∷ xs)
        → t x ≡ s x
    here_too y xs same below x (first is) = subst (λ v. t v ≡ s v) (sym is) same
    here_too y xs same below x (further h) = below x h

    same_or_more : (xs : List A) → (((x : A) → Listed x xs → t x ≡ s x) × (count t xs ≡ count s xs))
        ⊎ (count s xs < count t xs)
    same_or_more [] = inl (λ x h. nobody h, refl)
      where
        nobody : {x : A} → Listed x [] → t x ≡ s x
        nobody h = elim h [ ]
    same_or_more (y ∷ xs) = elim (one_same_or_more (s y) (t y) (within y)) [
      | inl same ↦ elim (same_or_more xs) [
        | inl all ↦ inl (here_too y xs same all.0, let o = ap one_of same in omega (arith, o, all.1))
        | inr more ↦ inr (let o = ap one_of same in omega (arith, o, more))
      ]
      | inr more ↦ elim (same_or_more xs) [
        | inl all ↦ inr (omega (arith, more, all.1))
        | inr less ↦ inr (omega (arith, more, less))
      ]
    ]

  module _ (all : List A) (grow : (A → Bool) → A → Bool) where
    -- the set after so many rounds
    abbrev at : ℕ → A → Bool
    at zero x = false
    at (suc k) x = either (at k x) (grow (at k) x)

    stays_in : (k : ℕ) (x : A) → at k x ≡ true → at (suc k) x ≡ true
    stays_in k x is = rw is refl

    settles_by : (k : ℕ) → ((j : ℕ) × ((x : A) → Listed x all → at (suc j) x ≡ at j x)) ⊎ (k ≤ count (at k) all)
    settles_by zero = inr (omega arith)
    settles_by (suc k) = elim (settles_by k) [
      | inl done ↦ inl done
      | inr le ↦ elim (same_or_more (at k) (at (suc k)) (stays_in k) all)
          [ inl same ↦ inl (k, same.0) | inr more ↦ inr (omega (arith, le, more)) ]
    ]

    has_settled : (j : ℕ) × ((x : A) → Listed x all → at (suc j) x ≡ at j x)
    has_settled = elim (settles_by (suc (length all))) [
      | inl done ↦ done
      | inr le ↦ let h =
          count_below (at (suc (length all))) all in absurd (omega (arith, le, h))
    ]

    -- P is the least set that `grow` leaves alone: what grows of members is one, and a member lies in each set that
    -- doesn't grow
    module _ (P : A → Type 0) (sound : (s : A → Bool) → ((x : A) → s x ≡ true → P x) → (x : A) → grow s x ≡ true → P x)
        (least : (s : A → Bool) → ((x : A) → Listed x all → grow s x ≡ true → s x ≡ true) → (x : A) → Listed x all → P x
        → s x ≡ true) where
      one_more : (x : A) (b : Bool) (g : Bool) → (b ≡ true → P x) → (g ≡ true → P x) → either b g ≡ true → P x
      one_more x true g old new is = old refl
      one_more x false g old new is = new is

      members_hold : (k : ℕ) (x : A) → at k x ≡ true → P x
      members_hold zero x is = absurd (cc is)
      members_hold (suc k) x is =
          one_more x (at k x) (grow (at k) x) (members_hold k x) (sound (at k) (members_hold k) x) is

      grown_stays : (b g : Bool) → either b g ≡ b → g ≡ true → b ≡ true
      grown_stays true g same is = refl
      grown_stays false g same is = sym same ∙ is

      is_closed : (x : A) → Listed x all → grow (at has_settled.0) x ≡ true → at has_settled.0 x ≡ true
      is_closed x here is = grown_stays (at has_settled.0 x) (grow (at has_settled.0) x) (has_settled.1 x here) is

      by_mark : (x : A) → Listed x all → (b : Bool) → at has_settled.0 x ≡ b → (said : Bool) × Says (P x) said
      by_mark x here true is = (true, members_hold has_settled.0 x is)
      by_mark x here false is = (false, λ p. let h = least (at has_settled.0) is_closed x here p in absurd (cc (h, is)))

      pub least_is_decided : (x : A) → Listed x all → (said : Bool) × Says (P x) said
      least_is_decided x here = by_mark x here (at has_settled.0 x) refl
