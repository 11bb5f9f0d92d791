-- Lists of stored keys, and keys that stand at positions in a row.
-- Serves: KeyLog::get, KeyLog::put, KeyLog::put_run, KeyLog::put_steps, KeyLog::mark
use Rattle.std.proofs.Common.{◌≡◌, ◌⊎◌, inl, inr, ℕ, zero, suc, ◌+◌, ◌<◌, ◌≤◌, List, [], ◌∷◌, ◌++◌, length, refl, sym}
use Rattle.std.proofs.Common.{subst, ap, arith, slice_get, Some, reverse}
use Rattle.std.proofs.lemmas.List.{reverse-append}
use Rattle.memo.specs.Parts.{IsIn, in_here, in_later}
use Rattle.memo.specs.KeyLog.{tasks_of, spread, rising}
use Rattle.memo.specs.declared.key_log.Stored.{Stored}
use Rattle.memo.specs.declared.task.MatchTask.{MatchTask}
use Rattle.memo.proofs.PartsLemmas.{in_left, in_right, in_either}

module _ {V : Type 0} where
  pub in_of_get : (xs : List V) (i : ℕ) (a : V) → slice_get xs i ≡ Some a → IsIn a xs
  in_of_get [] i a h = absurd (cc h)
  in_of_get (b ∷ xs) zero a h = let is : b ≡ a = cc h in subst (λ v. IsIn v (b ∷ xs)) is in_here
  in_of_get (b ∷ xs) (suc i) a h = in_later (in_of_get xs i a h)

  pub record HasIndex (xs : List V) (a : V) : Type 0 where
    pub index : ℕ
    pub at : slice_get xs index ≡ Some a

  pub get_of_in : {a : V} {xs : List V} → IsIn a xs → HasIndex xs a
  get_of_in in_here = record { index = 0; at = refl }
  get_of_in (in_later i) = let h = get_of_in i in record { index = suc h.index; at = h.at }

  rev_cons : (a : V) (xs : List V) → reverse (a ∷ xs) ≡ reverse xs ++ (a ∷ [])
  rev_cons a xs = reverse-append (a ∷ []) xs

  pub in_reverse : {a : V} {xs : List V} → IsIn a xs → IsIn a (reverse xs)
  in_reverse {a = a} (in_here {xs = xs}) = subst (IsIn a) (sym (rev_cons a xs)) (in_right (reverse xs) in_here)
  in_reverse {a = a} (in_later {b = b} {xs = xs} i) = subst (IsIn a) (sym (rev_cons b xs)) (in_left (b ∷ [])
      (in_reverse i))

  pub first_or_later : {a b : V} {xs : List V} → IsIn a (b ∷ xs) → (a ≡ b) ⊎ IsIn a xs
  first_or_later in_here = inl refl
  first_or_later (in_later i) = inr i

  pub of_reverse : (xs : List V) (a : V) → IsIn a (reverse xs) → IsIn a xs
  of_reverse [] a i = elim i [ ]
  of_reverse (b ∷ xs) a i = elim (in_either (reverse xs) (b ∷ []) (subst (IsIn a) (rev_cons b xs) i)) [
    | inl l ↦ in_later (of_reverse xs a l)
    | inr r ↦ elim (first_or_later r) [ inl is ↦ subst (λ v. IsIn v (b ∷ xs)) (sym is) in_here | inr j ↦ elim j [ ] ]
  ]

pub record HasStored (stored : List Stored) (task : MatchTask) : Type 0 where
  pub entry : Stored
  pub there : IsIn entry stored
  pub is : entry.task ≡ task

pub stored_of_task : (stored : List Stored) (task : MatchTask) → IsIn task (tasks_of stored) → HasStored stored task
stored_of_task [] task i = elim i [ ]
stored_of_task (s ∷ stored) task i = elim (first_or_later i) [
  | inl is ↦ record { entry = s; there = in_here; is = sym is }
  | inr j ↦ let h = stored_of_task stored task j in record { entry = h.entry; there = in_later h.there; is = h.is }
]

pub task_of_stored : {s : Stored} {stored : List Stored} → IsIn s stored → IsIn s.task (tasks_of stored)
task_of_stored in_here = in_here
task_of_stored (in_later i) = in_later (task_of_stored i)

-- one of those that stand at positions in a row
pub record IsSpread (at : ℕ → Stored) (from n : ℕ) (s : Stored) : Type 0 where
  pub position : ℕ
  pub is : s ≡ at position
  pub low : from ≤ position
  pub high : position < from + n

pub of_spread : (at : ℕ → Stored) (from n : ℕ) (s : Stored) → IsIn s (spread at from n) → IsSpread at from n s
of_spread at from zero s i = elim i [ ]
of_spread at from (suc n) s i = elim (first_or_later i) [
  | inl is ↦ record { position = from + n; is = is; low = omega arith; high = omega arith }
  | inr j ↦ let h = of_spread at from n s j in
      record { position = h.position; is = h.is; low = h.low; high = let k = h.high in omega arith }
]

last_or_before : (p m n : ℕ) → p < m + suc n → (p ≡ m + n) ⊎ (p < m + n)
last_or_before p m n h = grind arith

pub in_spread : (at : ℕ → Stored) (from n p : ℕ) → from ≤ p → p < from + n → IsIn (at p) (spread at from n)
in_spread at from zero p low high = absurd (omega arith)
in_spread at from (suc n) p low high = elim (last_or_before p from n high) [
  | inl is ↦ subst (λ v. IsIn (at v) (spread at from (suc n))) (sym is) in_here
  | inr less ↦ in_later (in_spread at from n p low less)
]

pub length_spread : (at : ℕ → Stored) (from n : ℕ) → length (spread at from n) ≡ n
length_spread at from zero = refl
length_spread at from (suc n) = let h = length_spread at from n in omega arith

pub of_rising : (at : ℕ → Stored) (from n : ℕ) (s : Stored) → IsIn s (rising at from n) → IsSpread at from n s
of_rising at from zero s i = elim i [ ]
of_rising at from (suc n) s i = elim (first_or_later i) [
  | inl is ↦ record { position = from; is = is; low = omega arith; high = omega arith }
  | inr j ↦ let h = of_rising at (suc from) n s j in
      record {
        position = h.position;
        is = h.is;
        low = let k = h.low in omega arith;
        high = let k = h.high in omega arith;
      }
]

first_or_beyond : (p m : ℕ) → m ≤ p → (p ≡ m) ⊎ (suc m ≤ p)
first_or_beyond p m h = grind arith

pub in_rising : (at : ℕ → Stored) (from n p : ℕ) → from ≤ p → p < from + n → IsIn (at p) (rising at from n)
in_rising at from zero p low high = absurd (omega arith)
in_rising at from (suc n) p low high = elim (first_or_beyond p from low) [
  | inl is ↦ subst (λ v. IsIn (at v) (rising at from (suc n))) (sym is) in_here
  | inr more ↦ in_later (in_rising at (suc from) n p more (omega arith))
]

pub length_rising : (at : ℕ → Stored) (from n : ℕ) → length (rising at from n) ≡ n
length_rising at from zero = refl
length_rising at from (suc n) = let h = length_rising at (suc from) n in omega arith

-- the last one of them
pub rising_last : (at : ℕ → Stored) (from n : ℕ) → rising at from (suc n) ≡ rising at from n ++ at (from + n) ∷ []
rising_last at from zero = let is : from ≡ from + 0 = omega arith in ap (λ v. at v ∷ []) is
rising_last at from (suc n) =
    let is : suc from + n ≡ from + suc n = omega arith in
    ap (λ v. at from ∷ v) (subst (λ v. rising at (suc from) (suc n) ≡ rising at (suc from) n ++ at v ∷ []) is
    (rising_last at (suc from) n))
