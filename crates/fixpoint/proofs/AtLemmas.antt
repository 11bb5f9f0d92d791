-- What stands at an index of a list.
-- Serves: on_cycle, least, derive
use Rattle.std.proofs.Common.{◌≡◌, ◌≢◌, ℕ, zero, suc, ◌+◌, ◌<◌, ◌≤◌, List, [], ◌∷◌, ◌++◌, length, take, drop, set}
use Rattle.std.proofs.Common.{Contains, refl, sym, ap, arith, ⊎_elim, inl, inr, ◌⊎◌, ◌∙◌, Some}
use Rattle.fixpoint.specs.Way.{At}
use Rattle.fixpoint.proofs.ContainsLemmas.{in_get, get_in}

module _ {A : Type 0} where
  pub at_one : (xs : List A) (i : ℕ) (x y : A) → At xs i x → At xs i y → x ≡ y
  at_one xs i x y g h = let e : Some x ≡ Some y = sym g ∙ h in cc e

  pub at_append_left : (xs ys : List A) (i : ℕ) (x : A) → At xs i x → At (xs ++ ys) i x
  at_append_left [] ys i x h = absurd (cc h)
  at_append_left (y ∷ xs) ys zero x h = h
  at_append_left (y ∷ xs) ys (suc i) x h = at_append_left xs ys i x h

  pub at_append_right : (xs ys : List A) (k : ℕ) (x : A) → At ys k x → At (xs ++ ys) (length xs + k) x
  at_append_right [] ys k x h = let e : 0 + k ≡ k = omega arith in rw e h
  at_append_right (y ∷ xs) ys k x h = let e : suc (length xs) + k ≡ suc (length xs + k) = omega arith in
      rw e (at_append_right xs ys k x h)

  pub at_append_cases : (xs ys : List A) (i : ℕ) (x : A) → At (xs ++ ys) i x →
      At xs i x ⊎ ((k : ℕ) × (i ≡ length xs + k) × At ys k x)
  at_append_cases [] ys i x h = inr (i, omega arith, h)
  at_append_cases (y ∷ xs) ys zero x h = inl h
  at_append_cases (y ∷ xs) ys (suc i) x h =
      ⊎_elim (λ old. inl old) (λ new. let e = new.1 in
      inr (new.0, omega (arith, e), new.2)) (at_append_cases xs ys i x h)

  pub at_push : (xs : List A) (x : A) → At (xs ++ x ∷ []) (length xs) x
  at_push [] x = refl
  at_push (y ∷ xs) x = at_push xs x

  pub at_push_cases : (xs : List A) (y : A) (i : ℕ) (x : A) → At (xs ++ y ∷ []) i x →
      At xs i x ⊎ ((i ≡ length xs) × (x ≡ y))
  at_push_cases [] y zero x h = inr (refl, cc h)
  at_push_cases [] y (suc i) x h = absurd (cc h)
  at_push_cases (z ∷ xs) y zero x h = inl h
  at_push_cases (z ∷ xs) y (suc i) x h =
      ⊎_elim (λ old. inl old) (λ new. inr (ap suc new.0, new.1)) (at_push_cases xs y i x h)

  pub at_take : (n : ℕ) (xs : List A) (i : ℕ) (x : A) → i < n → At xs i x → At (take n xs) i x
  at_take zero xs i x lt h = absurd (omega arith)
  at_take (suc n) [] i x lt h = h
  at_take (suc n) (y ∷ xs) zero x lt h = h
  at_take (suc n) (y ∷ xs) (suc i) x lt h = at_take n xs i x (omega (arith, lt)) h

  pub take_at : (n : ℕ) (xs : List A) (i : ℕ) (x : A) → At (take n xs) i x → (i < n) × At xs i x
  take_at zero xs i x h = absurd (cc h)
  take_at (suc n) [] i x h = absurd (cc h)
  take_at (suc n) (y ∷ xs) zero x h = (omega arith, h)
  take_at (suc n) (y ∷ xs) (suc i) x h = let k = take_at n xs i x h in (let lt = k.0 in omega (arith, lt), k.1)

  pub set_same : (xs : List A) (i : ℕ) (x : A) → i < length xs → At (set xs i x) i x
  set_same [] i x lt = absurd (omega arith)
  set_same (y ∷ xs) zero x lt = refl
  set_same (y ∷ xs) (suc i) x lt = set_same xs i x (omega (arith, lt))

  pub set_other : (xs : List A) (i j : ℕ) (x y : A) → j ≢ i → At xs j y → At (set xs i x) j y
  set_other [] i j x y ne h = h
  set_other (z ∷ xs) zero zero x y ne h = absurd (ne refl)
  set_other (z ∷ xs) zero (suc j) x y ne h = h
  set_other (z ∷ xs) (suc i) zero x y ne h = h
  set_other (z ∷ xs) (suc i) (suc j) x y ne h = set_other xs i j x y (λ e. ne (ap suc e)) h

  pub set_cases : (xs : List A) (i j : ℕ) (x y : A) → At (set xs i x) j y → ((j ≡ i) × (y ≡ x)) ⊎ ((j ≢ i) × At xs j y)
  set_cases [] i j x y h = absurd (cc h)
  set_cases (z ∷ xs) zero zero x y h = inl (refl, cc h)
  set_cases (z ∷ xs) zero (suc j) x y h = inr (λ e. omega (arith, e), h)
  set_cases (z ∷ xs) (suc i) zero x y h = inr (λ e. omega (arith, e), h)
  set_cases (z ∷ xs) (suc i) (suc j) x y h =
      ⊎_elim (λ is. inl (ap suc is.0, is.1)) (λ not. inr (λ e. not.0 (omega (arith, e)), not.1))
      (set_cases xs i j x y h)

  pub at_some : (xs : List A) (i : ℕ) → i < length xs → (x : A) × At xs i x
  at_some [] i lt = absurd (omega (arith, lt))
  at_some (x ∷ xs) zero lt = (x, refl)
  at_some (x ∷ xs) (suc i) lt = at_some xs i (omega (arith, lt))

  pub only_at : (x : A) (i : ℕ) (y : A) → At (x ∷ []) i y → x ≡ y
  only_at x zero y h = cc h
  only_at x (suc i) y h = absurd (cc h)

-- members stand at positions
pub drop_in : (f : ℕ) (xs : List ℕ) (i n : ℕ) → f ≤ i → At xs i n → Contains (drop f xs) n
drop_in zero xs i n le h = in_get xs i n h
drop_in (suc f) [] i n le h = absurd (cc h)
drop_in (suc f) (x ∷ xs) zero n le h = absurd (omega (arith, le))
drop_in (suc f) (x ∷ xs) (suc i) n le h = drop_in f xs i n (omega (arith, le)) h

pub in_drop : (f : ℕ) (xs : List ℕ) (n : ℕ) → Contains (drop f xs) n → (i : ℕ) × (f ≤ i) × At xs i n
in_drop zero xs n h = let k = get_in xs n h in (k.0, omega arith, k.1)
in_drop (suc f) [] n h = absurd (let lt = h.1 in omega (arith, lt))
in_drop (suc f) (x ∷ xs) n h = let k = in_drop f xs n h in (suc k.0, let le = k.1 in omega (arith, le), k.2)

pub in_rest : (n f : ℕ) (xs : List ℕ) (m : ℕ) → Contains (take n (drop f xs)) m → Contains xs m
in_rest n f xs m h =
    let k = get_in (take n (drop f xs)) m h in
    let t = take_at n (drop f xs) k.0 m k.1 in
    let d = in_drop f xs m (in_get (drop f xs) k.0 m t.1) in
    in_get xs d.0 m d.2
