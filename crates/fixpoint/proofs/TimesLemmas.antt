-- How often numbers stand in lists, and how many entries of a row stand in an order.
-- Serves: derive, least
use Rattle.std.proofs.Common.{◌≡◌, ℕ, zero, suc, ◌+◌, ◌≤◌, Bool, true, false, List, [], ◌∷◌, ◌++◌, length, take, drop}
use Rattle.std.proofs.Common.{Contains, refl, sym, ap, subst, arith, ⊎_elim, inl, inr, ◌⊎◌, ◌∙◌, Some}
use Rattle.std.specs.Prelude.{slice_get, nat_eq}
use Rattle.std.proofs.lemmas.Bool.{cases_eq, eq-eqb, eqb-true}
use Rattle.std.proofs.lemmas.List.{take-append-drop}
use Rattle.fixpoint.specs.NeedCounts.{once, times, met}
use Rattle.fixpoint.proofs.ContainsLemmas.{in_first, in_later, cons_cases, none_of, only_one, in_get}

pub once_same : (x : ℕ) → once x x ≡ 1
once_same x = rw (eq-eqb x x refl) refl

pub once_other : (x m : ℕ) → (x ≡ m → ⊥) → once x m ≡ 0
once_other x m ne = let e = cases (nat_eq x m) refl in rw e refl
  where
    cases : (b : Bool) → nat_eq x m ≡ b → nat_eq x m ≡ false
    cases true e = absurd (ne (eqb-true x m e))
    cases false e = e

pub once_swap : (x m : ℕ) → once x m ≡ once m x
once_swap x m = ⊎_elim (λ is. subst (λ v. once x v ≡ once v x) is refl)
    (λ ne. once_other x m ne ∙ sym (once_other m x (λ e. ne (sym e)))) (cases_eq x m)

pub times-append : (xs ys : List ℕ) (m : ℕ) → times (xs ++ ys) m ≡ times xs m + times ys m
times-append [] ys m = omega arith
times-append (x ∷ xs) ys m = let k = times-append xs ys m in omega (arith, k)

pub times_push : (xs : List ℕ) (x m : ℕ) → times (xs ++ x ∷ []) m ≡ times xs m + once x m
times_push xs x m = let k = times-append xs (x ∷ []) m in omega (arith, k)

pub times_in : (xs : List ℕ) (m : ℕ) → Contains xs m → 1 ≤ times xs m
times_in [] m h = absurd (omega (arith, h.1))
times_in (x ∷ xs) m (zero, lt, is) = let k = subst (λ v. once x v ≡ 1) is (once_same x) in omega (arith, k)
times_in (x ∷ xs) m (suc i, lt, is) = let k = times_in xs m (i, omega (arith, lt), is) in omega (arith, k)

pub in_times : (xs : List ℕ) (m : ℕ) → 1 ≤ times xs m → Contains xs m
in_times [] m h = absurd (omega (arith, h))
in_times (x ∷ xs) m h = ⊎_elim
    (λ is. subst (λ v. Contains (x ∷ xs) v) is (in_first x xs))
    (λ ne. let k = once_other x m ne in in_later x m xs (in_times xs m (omega (arith, h, k))))
    (cases_eq x m)

pub times_take : (xs : List ℕ) (i m : ℕ) → times (take i xs) m ≤ times xs m
times_take xs i m =
    let k = times-append (take i xs) (drop i xs) m in
    let e = ap (λ v. times v m) (take-append-drop i xs) in
    omega (arith, k, e)

pub times_earlier : (xs : List ℕ) (i j m : ℕ) → i ≤ j → times (take i xs) m ≤ times (take j xs) m
times_earlier [] zero zero m le = omega arith
times_earlier [] zero (suc j) m le = omega arith
times_earlier [] (suc i) zero m le = omega arith
times_earlier [] (suc i) (suc j) m le = omega arith
times_earlier (x ∷ xs) zero j m le = omega arith
times_earlier (x ∷ xs) (suc i) zero m le = absurd (omega (arith, le))
times_earlier (x ∷ xs) (suc i) (suc j) m le = let k = times_earlier xs i j m (omega (arith, le)) in omega (arith, k)

-- a number that stands at most once stands at one position
pub one_position : (xs : List ℕ) (i j n : ℕ) → times xs n ≤ 1 → slice_get xs i ≡ Some n → slice_get xs j ≡ Some n → i
    ≡ j
one_position [] i j n le g h = absurd (cc g)
one_position (x ∷ xs) zero zero n le g h = refl
one_position (x ∷ xs) zero (suc j) n le g h =
    let is : x ≡ n = cc g in
    let k = subst (λ v. once x v ≡ 1) is (once_same x) in
    let t = times_in xs n (in_get xs j n h) in
    absurd (omega (arith, le, k, t))
one_position (x ∷ xs) (suc i) zero n le g h =
    let is : x ≡ n = cc h in
    let k = subst (λ v. once x v ≡ 1) is (once_same x) in
    let t = times_in xs n (in_get xs i n g) in
    absurd (omega (arith, le, k, t))
one_position (x ∷ xs) (suc i) (suc j) n le g h = let k : times xs n ≤ 1 = omega (arith, le) in
    ap (λ v. suc v) (one_position xs i j n k g h)

pub met_push : (order : List ℕ) (m : ℕ) (row : List ℕ) → met (order ++ m ∷ []) row ≡ met order row + times row m
met_push order m [] = refl
met_push order m (x ∷ row) =
    let k = met_push order m row in
    let t = times_push order m x in
    let s = once_swap x m in
    omega (arith, k, t, s)

pub met_none : (row : List ℕ) → met [] row ≡ 0
met_none [] = refl
met_none (x ∷ row) = let k = met_none row in omega (arith, k)

pub met_mono : (a b row : List ℕ) → ((m : ℕ) → times a m ≤ times b m) → met a row ≤ met b row
met_mono a b [] f = omega arith
met_mono a b (x ∷ row) f = let k = met_mono a b row f in let t = f x in omega (arith, k, t)

-- a row whose entries all stand in the order
pub met_all : (order row : List ℕ) → ((m : ℕ) → Contains row m → Contains order m) → length row ≤ met order row
met_all order [] f = omega arith
met_all order (x ∷ row) f =
    let k = met_all order row (λ m h. f m (in_later x m row h)) in
    let t = times_in order x (f x (in_first x row)) in
    omega (arith, k, t)

pub met_most : (order row : List ℕ) → ((m : ℕ) → times order m ≤ 1) → met order row ≤ length row
met_most order [] f = omega arith
met_most order (x ∷ row) f = let k = met_most order row f in let t = f x in omega (arith, k, t)

pub all_met : (order row : List ℕ) → ((m : ℕ) → times order m ≤ 1) → length row ≤ met order row → (m : ℕ) →
    Contains row m → Contains order m
all_met order [] f le m h = absurd (none_of m h)
all_met order (x ∷ row) f le m h =
    let most = met_most order row f in
    let t = f x in
    ⊎_elim
    (λ is. subst (λ v. Contains order v) is (in_times order x (omega (arith, most, le))))
    (λ later. all_met order row f (omega (arith, le, t)) m later)
    (cons_cases x m row h)

-- a row of which one entry stands in the order
pub met_one : (order row : List ℕ) (m : ℕ) → Contains row m → Contains order m → 1 ≤ met order row
met_one order [] m h o = absurd (none_of m h)
met_one order (x ∷ row) m h o = ⊎_elim
    (λ is. let t = times_in order x (subst (λ v. Contains order v) (sym is) o) in omega (arith, t))
    (λ later. let k = met_one order row m later o in omega (arith, k))
    (cons_cases x m row h)

pub one_met : (order row : List ℕ) → 1 ≤ met order row → (m : ℕ) × Contains row m × Contains order m
one_met order [] le = absurd (omega (arith, le))
one_met order (x ∷ row) le = cases (times order x) refl (λ h. one_met order row h)
  where
    cases : (k : ℕ) → times order x ≡ k → (1 ≤ met order row → (m : ℕ) × Contains row m × Contains order m) →
        (m : ℕ) × Contains (x ∷ row) m × Contains order m
    cases zero e f = let r = f (omega (arith, le, e)) in (r.0, in_later x r.0 row r.1, r.2)
    cases (suc k) e f = (x, in_first x row, in_times order x (omega (arith, e)))

-- what stands in the first i + 1 positions
pub taken_cases : (xs : List ℕ) (i m : ℕ) → Contains (take (suc i) xs) m →
    Contains (take i xs) m ⊎ (slice_get xs i ≡ Some m)
taken_cases [] zero m h = absurd (none_of m h)
taken_cases [] (suc i) m h = absurd (none_of m h)
taken_cases (x ∷ xs) zero m h = inr (ap Some (only_one x m h))
taken_cases (x ∷ xs) (suc i) m h = ⊎_elim
    (λ is. inl (subst (λ v. Contains (x ∷ take i xs) v) is (in_first x (take i xs))))
    (λ later. ⊎_elim (λ old. inl (in_later x m (take i xs) old)) (λ at. inr at) (taken_cases xs i m later))
    (cons_cases x m (take (suc i) xs) h)
