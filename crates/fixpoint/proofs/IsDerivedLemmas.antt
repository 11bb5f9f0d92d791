-- The order is the least set that contains each number whose need it meets.
-- Serves: derive, least
use Rattle.std.proofs.Common.{◌≡◌, ℕ, zero, suc, ◌+◌, ◌-◌, ◌<◌, ◌≤◌, List, [], ◌∷◌, ◌++◌, length, take, get_or, set}
use Rattle.std.proofs.Common.{refl, sym, ap, subst, arith, ⊎_elim, ◌∙◌, Contains, add-one, Some, replicate}
use Rattle.std.specs.Prelude.{slice_get}
use Rattle.std.proofs.lemmas.Bool.{cases_eq, cases_lt}
use Rattle.std.proofs.lemmas.List.{get_or_past, get_or-set_same, get_or-set_other, length-set, length-replicate}
use Rattle.std.proofs.lemmas.List.{get_or-replicate, get_or-map, length-map, take-append-le, take_all}
use Rattle.std.proofs.lemmas.List.{get_or_append_left}
use Rattle.std.proofs.lemmas.Option.{slice_get_within, get_or_from_slice_get, slice_get-get_or}
use Rattle.std.proofs.Math.Seq.{take-suc}
use Rattle.fixpoint.proofs.ContainsLemmas.{in_get}
use Rattle.fixpoint.specs.Demands.{Demand, All, One, row_of, IsMet, IsDerived}
use Rattle.fixpoint.specs.NeedCounts.{once, times, met, count_of, counts_of, left_of, Added, AreUsersTo, AreUsers}
use Rattle.fixpoint.specs.NeedCounts.{IsQueue, Reported, IsComing}
use Rattle.fixpoint.specs.StepRows.{row_at}
use Rattle.fixpoint.proofs.TimesLemmas.{once_same, once_other, times-append, times_in, in_times, times_take}
use Rattle.fixpoint.proofs.TimesLemmas.{times_earlier, one_position, met_push, met_none, met_mono, met_all, all_met}
use Rattle.fixpoint.proofs.TimesLemmas.{met_one, one_met}

-- n was put before the row of x
pub added_one : (rows : List (List ℕ)) (x n : ℕ) → x < length rows →
    Added (x ∷ []) n rows (set rows x (n ∷ row_at rows x))
added_one rows x n lt = record {
  count = length-set rows x (n ∷ row_at rows x);
  own = λ m low. ⊎_elim
      (λ is.
      let s = ap (λ v. times v n) (subst (λ v. row_at (set rows x (n ∷ row_at rows x)) v ≡ n ∷ row_at rows x) (sym is)
      (same x lt)) in
      let k = once_same n in
      let e = subst (λ v. once x v ≡ 1) (sym is) (once_same x) in
      let o = ap (λ v. times (row_at rows v) n) is in
      omega (arith, s, k, e, o))
      (λ ne.
      let s = ap (λ v. times v n) (get_or-set_other rows x m (n ∷ row_at rows x) [] ne) in
      let e = once_other x m (λ v. ne (sym v)) in
      omega (arith, s, e))
      (cases_eq m x);
  other = λ m k ne. ⊎_elim
      (λ is.
      let s = ap (λ v. times v k) (subst (λ v. row_at (set rows x (n ∷ row_at rows x)) v ≡ n ∷ row_at rows x) (sym is)
      (same x lt)) in
      let e = once_other n k (λ v. ne (sym v)) in
      let o = ap (λ v. times (row_at rows v) k) is in
      omega (arith, s, e, o))
      (λ diff. ap (λ v. times v k) (get_or-set_other rows x m (n ∷ row_at rows x) [] diff))
      (cases_eq m x);
}
  where
    same : (y : ℕ) → y < length rows → row_at (set rows y (n ∷ row_at rows y)) y ≡ n ∷ row_at rows y
    same y low = get_or-set_same rows y (n ∷ row_at rows y) [] low

pub added_none : (n : ℕ) (a : List (List ℕ)) → Added [] n a a
added_none n a = record { count = refl; own = λ m low. omega arith; other = λ m k ne. refl }

pub added_push : (row : List ℕ) (x n : ℕ) (a b c : List (List ℕ)) → Added row n a b → Added (x ∷ []) n b c →
    Added (row ++ x ∷ []) n a c
added_push row x n a b c g h = record {
  count = h.count ∙ g.count;
  own = λ m low.
      let o = g.own m low in
      let q = h.own m (let k = g.count in omega (arith, k, low)) in
      let p = times-append row (x ∷ []) m in
      omega (arith, o, q, p);
  other = λ m k ne. h.other m k ne ∙ g.other m k ne;
}

pub empty_row : (n m : ℕ) → row_at (replicate n []) m ≡ []
empty_row n m = ⊎_elim
    (λ lt. get_or-replicate n m [] [] lt)
    (λ le. let l = length-replicate {A = List ℕ} n [] in get_or_past (replicate n []) m [] (omega (arith, l, le)))
    (cases_lt m n)

pub users_none : (needs : List Demand) (users : List (List ℕ)) (count : ℕ) → count ≡ length needs →
    users ≡ replicate count [] → AreUsersTo needs users 0
users_none needs users count c is = record {
  count = ap length is ∙ length-replicate count [] ∙ c;
  needed = λ n m need lt. absurd (omega (arith, lt));
  none = λ n m le. ap (λ v. times v n) (ap (λ w. row_at w m) is ∙ empty_row count m);
}

pub users_next : (needs : List Demand) (a b : List (List ℕ)) (i : ℕ) (need : Demand) → AreUsersTo needs a i →
    slice_get needs i ≡ Some need → Added (row_of need) i a b → AreUsersTo needs b (i + 1)
users_next needs a b i need u at g = record {
  count = g.count ∙ u.count;
  needed = λ n m other lt low h. ⊎_elim
      (λ is.
      let same : need ≡ other = cc (subst (λ v. slice_get needs v ≡ Some other) is h, at) in
      let o = g.own m (let c = u.count in omega (arith, c, low)) in
      let z = u.none i m (omega arith) in
      let k : times (row_at b m) i ≡ times (row_of need) m = omega (arith, o, z) in
      subst (λ v. times (row_at b m) v ≡ times (row_of other) m) (sym is) (k ∙ ap (λ v. times (row_of v) m) same))
      (λ ne. g.other m n ne ∙ u.needed n m other (omega (arith, lt, ne)) low h)
      (cases_eq n i);
  none = λ n m le. g.other m n (λ is. omega (arith, le, is)) ∙ u.none n m (omega (arith, le));
}

pub users_all : (needs : List Demand) (users : List (List ℕ)) (i : ℕ) → i ≡ length needs →
    AreUsersTo needs users i → AreUsers needs users
users_all needs users i is u = record {
  count = u.count;
  needed = λ n m need low h. let lt = slice_get_within needs n need h in
      u.needed n m need (omega (arith, lt, is)) low h;
  within = λ n m h. ⊎_elim
      (λ lt. lt)
      (λ past. let t = times_in (row_at users m) n h in let z = u.none n m (omega (arith, past, is)) in
      absurd (omega (arith, t, z)))
      (cases_lt n (length needs));
}

-- a number of the order needs no more
in_queue : (left order : List ℕ) (n : ℕ) → IsQueue left order → Contains order n → left_of left n ≡ 0
in_queue left order n q h = cases (left_of left n) refl
  where
    cases : (k : ℕ) → left_of left n ≡ k → left_of left n ≡ 0
    cases zero e = e
    cases (suc k) e = let t = times_in order n h in let z = q.not_yet n (omega (arith, e)) in
        absurd (omega (arith, t, z))

-- what needs no more is a number of the list
pub queue_within : (left order : List ℕ) (n : ℕ) → IsQueue left order → Contains order n → n < length left
queue_within left order n q h = ⊎_elim
    (λ lt. lt)
    (λ le. let z = in_queue left order n q h in let p = get_or_past left n 1 le in absurd (omega (arith, z, p)))
    (cases_lt n (length left))

pub queue_short : (left order : List ℕ) → IsQueue left order → length order ≤ length left
queue_short left order q = let t = q.total in omega (arith, t)

module _ (needs : List Demand) where
  pub coming_start : (left order : List ℕ) → left ≡ counts_of needs → IsQueue left order → IsComing needs left order 0
  coming_start left order is q = record {
    count = ap length is ∙ length-map needs count_of;
    queue = q;
    rest = rest;
    earned = λ k n need at h.
        let z = in_queue left order n q (in_get order k n at) in
        let r = rest n need h in
        let m = met_none (row_of need) in
        omega (arith, z, r, m);
  }
    where
      rest : (n : ℕ) (need : Demand) → slice_get needs n ≡ Some need →
          left_of left n ≡ count_of need - met [] (row_of need)
      rest n need h =
          let m = met_none (row_of need) in
          let lt = slice_get_within needs n need h in
          let g = get_or-map count_of needs n need 1 lt in
          let e = ap count_of (get_or_from_slice_get needs n need need h) in
          let l = ap (λ v. left_of v n) is in
          omega (arith, m, g, e, l)

  pub coming_next : (users : List (List ℕ)) (a o b p : List ℕ) (i m : ℕ) → AreUsers needs users →
      IsComing needs a o i → slice_get o i ≡ Some m → Reported (row_at users m) a o b p → IsComing needs b p (i + 1)
  coming_next users a o b p i m u g at t = record {
    count = t.count ∙ g.count;
    queue = t.queue;
    rest = rest;
    earned = λ k n need found h. ⊎_elim
        (λ lt.
        let same = take-append-le k o t.added (omega (arith, lt)) in
        let first : take k p ≡ take k o = ap (λ v. take k v) t.grows ∙ same in
        let e = g.earned k n need (slice_get-get_or o k n lt ∙ ap Some (before k n lt found)) h in
        subst (λ v. count_of need ≤ met v (row_of need)) (sym first) e)
        (λ le.
        let z = in_queue b p n t.queue (in_get p k n found) in
        let r = rest n need h in
        let more = met_mono (take (i + 1) p) (take k p) (row_of need)
        (λ x. times_earlier p (i + 1) k x (omega (arith, le, early))) in
        omega (arith, z, r, more))
        (cases_lt k (length o));
  }
    where
      early : i < length o
      early = slice_get_within o i m at

      before : (k n : ℕ) → k < length o → slice_get p k ≡ Some n → get_or o k n ≡ n
      before k n lt found = sym (get_or_append_left o t.added n k lt) ∙ ap (λ v. get_or v k n) (sym t.grows)
          ∙ get_or_from_slice_get p k n n found

      one_more : take (i + 1) p ≡ take i o ++ m ∷ []
      one_more =
          let le : i + 1 ≤ length o = omega (arith, early) in
          ap (λ v. take (i + 1) v) t.grows ∙ take-append-le (i + 1) o t.added le
          ∙ (rw (add-one i) (take-suc o i m early))
          ∙ ap (λ v. take i o ++ v ∷ []) (get_or_from_slice_get o i m m at)

      rest : (n : ℕ) (need : Demand) → slice_get needs n ≡ Some need →
          left_of b n ≡ count_of need - met (take (i + 1) p) (row_of need)
      rest n need h =
          let lt = slice_get_within needs n need h in
          let low = queue_within a o m g.queue (in_get o i m at) in
          let c = g.count in
          let f = t.fewer n (omega (arith, lt, c)) in
          let r = g.rest n need h in
          let k = u.needed n m need (omega (arith, low, c)) h in
          let e = ap (λ v. met v (row_of need)) one_more ∙ met_push (take i o) m (row_of need) in
          omega (arith, f, r, k, e)

  pub coming_done : (left order : List ℕ) (i : ℕ) → length order ≤ i →
      IsComing needs left order i → IsDerived needs order
  coming_done left order i le g = record {
    within = λ n h. let lt = queue_within left order n g.queue h in let c = g.count in omega (arith, lt, c);
    short = let s = queue_short left order g.queue in let c = g.count in omega (arith, s, c);
    once = λ i j n at there. one_position order i j n (at_most n) at there;
    earned = λ k n need at h. is_met k need (g.earned k n need at h);
    closed = λ n need h enough_in.
        let r = g.rest n need h in
        let enough = is_enough need enough_in in
        let e = ap (λ v. met v (row_of need)) (take_all i order le) in
        let z = g.queue.here n (omega (arith, r, enough, e)) in
        in_times order n (omega (arith, z));
  }
    where
      at_most : (n : ℕ) → times order n ≤ 1
      at_most n = cases (left_of left n) refl
        where
          cases : (k : ℕ) → left_of left n ≡ k → times order n ≤ 1
          cases zero e = let z = g.queue.here n e in omega (arith, z)
          cases (suc k) e = let z = g.queue.not_yet n (omega (arith, e)) in omega (arith, z)

      is_met : (k : ℕ) (need : Demand) → count_of need ≤ met (take k order) (row_of need) → IsMet (take k order) need
      is_met k (All row) e = all_met (take k order) row (λ m. let t = times_take order k m in
          let a = at_most m in omega (arith, t, a)) e
      is_met k (One row) e = one_met (take k order) row e

      is_enough : (need : Demand) → IsMet order need → count_of need ≤ met order (row_of need)
      is_enough (All row) f = met_all order row f
      is_enough (One row) f = met_one order row f.0 f.1 f.2
