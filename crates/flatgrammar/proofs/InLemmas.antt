-- Members of a list by their index.
-- Serves: judge.
use Rattle.std.proofs.Common.{◌≡◌, ℕ, zero, suc, ◌+◌, ◌<◌, ◌≤◌, ◌⊎◌, inl, inr, List, [], ◌∷◌, ◌++◌, length, take}
use Rattle.std.proofs.Common.{slice_index_or, refl, sym, subst, arith}
use Rattle.flatgrammar.specs.Positions.{In, now, on, AreDifferent}

pub at_index_in : {A : Type 0} (xs : List A) (k : ℕ) (d : A) → k < length xs → In (slice_index_or xs k d) xs
at_index_in [] k d lt = absurd (omega arith)
at_index_in (x ∷ xs) zero d lt = now refl
at_index_in (x ∷ xs) (suc k) d lt = let less : k < length xs = omega arith in on (at_index_in xs k d less)

-- a member of one more
pub among_more : {A : Type 0} (a : A) (xs : List A) (k : ℕ) (d : A) → k < length xs → In a (take (suc k) xs)
    → In a (take k xs) ⊎ (a ≡ slice_index_or xs k d)
among_more a [] k d lt h = absurd (omega arith)
among_more a (x ∷ xs) zero d lt (now same) = inr same
among_more a (x ∷ xs) zero d lt (on h) = elim h [ ]
among_more a (x ∷ xs) (suc k) d lt (now same) = inl (now same)
among_more a (x ∷ xs) (suc k) d lt (on h) = by (let less : k < length xs = omega arith in among_more a xs k d less h)
  where
    by : In a (take k xs) ⊎ (a ≡ slice_index_or xs k d) → In a (x ∷ take k xs) ⊎ (a ≡ slice_index_or xs k d)
    by (inl g) = inl (on g)
    by (inr same) = inr same

pub none_more : {A : Type 0} (a : A) (xs : List A) (k : ℕ) (d : A) → k < length xs → (In a (take k xs) → ⊥)
    → (a ≡ slice_index_or xs k d → ⊥) → In a (take (k + 1) xs) → ⊥
none_more a xs k d lt apart differs h =
    let one : k + 1 ≡ suc k = omega arith in
    by (among_more a xs k d lt (subst (λ v. In a (take v xs)) one h))
  where
    by : In a (take k xs) ⊎ (a ≡ slice_index_or xs k d) → ⊥
    by (inl g) = apart g
    by (inr same) = differs same

pub in_front : {A : Type 0} (a : A) (xs : List A) (k : ℕ) → length xs ≤ k → In a xs → In a (take k xs)
in_front a [] k le h = elim h [ ]
in_front a (x ∷ xs) zero le h = absurd (omega arith)
in_front a (x ∷ xs) (suc k) le (now same) = now same
in_front a (x ∷ xs) (suc k) le (on h) = let less : length xs ≤ k = omega arith in on (in_front a xs k less h)

pub from_front : {A : Type 0} (a : A) (xs : List A) (k : ℕ) → In a (take k xs) → In a xs
from_front a [] k h = by k h
  where
    by : (k : ℕ) → In a (take k []) → In a []
    by zero h = h
    by (suc k) h = h
from_front a (x ∷ xs) zero h = elim h [ ]
from_front a (x ∷ xs) (suc k) (now same) = now same
from_front a (x ∷ xs) (suc k) (on h) = on (from_front a xs k h)

pub in_left : {A : Type 0} {a : A} {xs : List A} (ys : List A) → In a xs → In a (xs ++ ys)
in_left ys (now h) = now h
in_left ys (on h) = on (in_left ys h)

pub at_end : {A : Type 0} (a : A) (xs : List A) → In a (xs ++ a ∷ [])
at_end a [] = now refl
at_end a (x ∷ xs) = on (at_end a xs)

pub before_end : {A : Type 0} (a b : A) (xs : List A) → In a (xs ++ b ∷ []) → In a xs ⊎ (a ≡ b)
before_end a b [] (now same) = inr same
before_end a b [] (on h) = elim h [ ]
before_end a b (x ∷ xs) (now same) = inl (now same)
before_end a b (x ∷ xs) (on h) = by (before_end a b xs h)
  where
    by : In a xs ⊎ (a ≡ b) → In a (x ∷ xs) ⊎ (a ≡ b)
    by (inl g) = inl (on g)
    by (inr same) = inr same

pub different_end : {A : Type 0} (b : A) (xs : List A) → (In b xs → ⊥) → AreDifferent xs → AreDifferent (xs ++ b ∷ [])
different_end b [] apart d = ((λ h. elim h [ ]), tt)
different_end b (x ∷ xs) apart d = ((λ h. by (before_end x b xs h)), different_end b xs (λ h. apart (on h)) d.1)
  where
    by : In x xs ⊎ (x ≡ b) → ⊥
    by (inl g) = d.0 g
    by (inr same) = apart (now (sym same))
