-- Lists that grow, of whose elements something holds, and of what stands past their ends.
-- Serves: check_peg
use Rattle.std.proofs.Common.{◌≡◌, ℕ, Bool, true, false, not, refl, List, [], ◌∷◌, ◌++◌, length, map, get_or, sym}
use Rattle.std.proofs.Common.{subst, arith, ⊎_elim}
use Rattle.std.proofs.lemmas.Bool.{cases_eq, cases_lt}
use Rattle.std.proofs.lemmas.List.{get_or_past, get_or_at, get_or_append_left, length-append, length-map, map-append}

pub all_pushed : {A : Type 0} (P : ℕ → A → Type 0) (xs : List A) (x d : A) (i : ℕ) → length xs ≡ i
    → ((m : ℕ) → P m (get_or xs m d)) → P i x → (m : ℕ) → P m (get_or (xs ++ x ∷ []) m d)
all_pushed P xs x d i count h g m = ⊎_elim
    (λ lt. subst (P m) (sym (get_or_append_left xs (x ∷ []) d m (omega (arith, lt, count)))) (h m))
    (λ le. ⊎_elim
    (λ is. subst (P m) (sym (get_or_at xs x [] d m (omega (arith, count, is)))) (subst (λ v. P v x) (sym is) g))
    (λ ne.
    let past = get_or_past xs m d (omega (arith, count, le)) in
    let long = length-append xs (x ∷ []) in
    subst (P m) (sym (get_or_past (xs ++ x ∷ []) m d (omega (arith, count, le, ne, long)))) (subst (P m) past (h m)))
    (cases_eq m i))
    (cases_lt m i)

pub all_pushed_by : {A B : Type 0} (f : A → B) (P : ℕ → B → Type 0) (xs : List A) (x : A) (d : B) (i : ℕ)
    → length xs ≡ i → ((m : ℕ) → P m (get_or (map f xs) m d)) → P i (f x)
    → (m : ℕ) → P m (get_or (map f (xs ++ x ∷ [])) m d)
all_pushed_by f P xs x d i count h g m =
    let long = length-map xs f in
    subst (λ v. P m (get_or v m d)) (sym (map-append f xs (x ∷ [])))
    (all_pushed P (map f xs) (f x) d i (omega (arith, long, count)) h g m)

pub not_false : (b : Bool) → not b ≡ false → b ≡ true
not_false true is = refl
not_false false is = absurd (cc is)
