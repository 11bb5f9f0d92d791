-- What numbers still need, and the order of those that need no more.
-- Serves: derive, least
use Rattle.std.proofs.Common.{◌≡◌, ◌≢◌, ℕ, zero, suc, ◌+◌, ◌-◌, ◌<◌, ◌≤◌, List, [], ◌∷◌, ◌++◌, length, take, get_or}
use Rattle.std.proofs.Common.{set, refl, sym, ap, subst, arith, ⊎_elim, ◌∙◌, add-one, length-append, append_assoc}
use Rattle.std.proofs.lemmas.Bool.{cases_eq, cases_lt}
use Rattle.std.proofs.lemmas.List.{get_or_past, get_or_at, get_or_append_left, get_or-set_same, get_or-set_other}
use Rattle.std.proofs.lemmas.List.{length-set, append-nil}
use Rattle.std.proofs.Math.Seq.{take-suc}
use Rattle.std.proofs.lemmas.List.{length-take}
use Rattle.fixpoint.specs.NeedCounts.{once, times, waiting, left_of, IsQueue, Reported}
use Rattle.fixpoint.proofs.TimesLemmas.{once_same, once_other, times_push, times-append}

pub other_default : (xs : List ℕ) (i d e : ℕ) → i < length xs → get_or xs i d ≡ get_or xs i e
other_default [] i d e lt = absurd (omega arith)
other_default (x ∷ xs) zero d e lt = refl
other_default (x ∷ xs) (suc i) d e lt = let less : i < length xs = omega arith in other_default xs i d e less

waiting-append : (xs ys : List ℕ) → waiting (xs ++ ys) ≡ waiting xs + waiting ys
waiting-append [] ys = omega arith
waiting-append (zero ∷ xs) ys = waiting-append xs ys
waiting-append (suc k ∷ xs) ys = let e = waiting-append xs ys in omega (arith, e)

waiting_done : (left : List ℕ) (n : ℕ) → n < length left → 0 < left_of left n →
    waiting (set left n 0) + 1 ≡ waiting left
waiting_done [] n lt h = absurd (omega arith)
waiting_done (zero ∷ left) zero lt h = absurd (omega arith)
waiting_done (suc k ∷ left) zero lt h = refl
waiting_done (zero ∷ left) (suc n) lt h = waiting_done left n (omega arith) h
waiting_done (suc k ∷ left) (suc n) lt h = let e = waiting_done left n (omega arith) h in omega (arith, e)

waiting_still : (left : List ℕ) (n k : ℕ) → n < length left → 0 < left_of left n →
    waiting (set left n (suc k)) ≡ waiting left
waiting_still [] n k lt h = absurd (omega arith)
waiting_still (zero ∷ left) zero k lt h = absurd (omega arith)
waiting_still (suc j ∷ left) zero k lt h = refl
waiting_still (zero ∷ left) (suc n) k lt h = waiting_still left n k (omega arith) h
waiting_still (suc j ∷ left) (suc n) k lt h = let e = waiting_still left n k (omega arith) h in omega (arith, e)

left_past : (left : List ℕ) (n : ℕ) → length left ≤ n → left_of left n ≡ 1
left_past left n le = get_or_past left n 1 le

-- a number past the list of what is needed stands in no order
past_queue : (left order : List ℕ) (n : ℕ) → IsQueue left order → length left ≤ n → times order n ≡ 0
past_queue left order n q le = let e = left_past left n le in q.not_yet n (omega (arith, e))

pub queue_zero : (left order : List ℕ) → IsQueue left order → IsQueue (left ++ 0 ∷ []) (order ++ length left ∷ [])
queue_zero left order q = record {
  here = λ n e. let p = times_push order (length left) n in ⊎_elim
      (λ is.
      let k = subst (λ v. once (length left) v ≡ 1) (sym is) (once_same (length left)) in
      let o = past_queue left order n q (omega (arith, is)) in
      omega (arith, p, k, o))
      (λ ne. ⊎_elim
      (λ lt.
      let o = q.here n (sym (get_or_append_left left (0 ∷ []) 1 n lt) ∙ e) in
      let k = once_other (length left) n (λ w. ne (sym w)) in
      omega (arith, p, k, o))
      (λ le.
      let l = length-append left (0 ∷ []) in
      let far = left_past (left ++ 0 ∷ []) n (omega (arith, l, le, ne)) in
      absurd (omega (arith, far, e)))
      (cases_lt n (length left)))
      (cases_eq n (length left));
  not_yet = λ n h. let p = times_push order (length left) n in ⊎_elim
      (λ is. let z = get_or_at left 0 [] 1 n (sym is) in absurd (omega (arith, z, h)))
      (λ ne.
      let k = once_other (length left) n (λ w. ne (sym w)) in
      ⊎_elim
      (λ lt. let z = get_or_append_left left (0 ∷ []) 1 n lt in
      let o = q.not_yet n (omega (arith, z, h)) in omega (arith, p, k, o))
      (λ le. let o = past_queue left order n q le in omega (arith, p, k, o))
      (cases_lt n (length left)))
      (cases_eq n (length left));
  total =
      let w = waiting-append left (0 ∷ []) in
      let l = length-append left (0 ∷ []) in
      let k = length-append order (length left ∷ []) in
      let t = q.total in
      omega (arith, w, l, k, t);
}

pub queue_more : (left order : List ℕ) (k : ℕ) → IsQueue left order → IsQueue (left ++ suc k ∷ []) order
queue_more left order k q = record {
  here = λ n e. ⊎_elim
      (λ lt. q.here n (sym (get_or_append_left left (suc k ∷ []) 1 n lt) ∙ e))
      (λ le. ⊎_elim
      (λ is. let z = get_or_at left (suc k) [] 1 n (sym is) in absurd (omega (arith, z, e)))
      (λ ne.
      let l = length-append left (suc k ∷ []) in
      let far = left_past (left ++ suc k ∷ []) n (omega (arith, l, le, ne)) in
      absurd (omega (arith, far, e)))
      (cases_eq n (length left)))
      (cases_lt n (length left));
  not_yet = λ n h. ⊎_elim
      (λ lt. let z = get_or_append_left left (suc k ∷ []) 1 n lt in q.not_yet n (omega (arith, z, h)))
      (λ le. past_queue left order n q le)
      (cases_lt n (length left));
  total =
      let w = waiting-append left (suc k ∷ []) in
      let l = length-append left (suc k ∷ []) in
      let t = q.total in
      omega (arith, w, l, t);
}

-- a number that needs nothing is counted down by nothing
pub reported_done : (n : ℕ) (left order : List ℕ) → IsQueue left order → left_of left n ≡ 0 →
    Reported (n ∷ []) left order left order
reported_done n left order q e = record {
  count = refl;
  fewer = λ m lt. ⊎_elim
      (λ is. let k = subst (λ v. left_of left v ≡ 0) (sym is) e in omega (arith, k))
      (λ ne. let k = once_other n m (λ w. ne (sym w)) in omega (arith, k))
      (cases_eq m n);
  queue = q;
  added = [];
  grows = sym (append-nil order);
}

fewer_by_one : (n k : ℕ) (left : List ℕ) → n < length left → left_of left n ≡ suc k → (m : ℕ) → m < length left →
    left_of (set left n k) m ≡ left_of left m - times (n ∷ []) m
fewer_by_one n k left lt e m in_it = ⊎_elim
    (λ is.
    let o = subst (λ v. once n v ≡ 1) (sym is) (once_same n) in
    let s = subst (λ v. left_of (set left n k) v ≡ k) (sym is) (get_or-set_same left n k 1 lt) in
    let b = subst (λ v. left_of left v ≡ suc k) (sym is) e in
    omega (arith, o, s, b))
    (λ ne.
    let o = once_other n m (λ w. ne (sym w)) in
    let s = get_or-set_other left n m k 1 ne in
    omega (arith, o, s))
    (cases_eq m n)

-- a number that needs one more comes in
pub reported_last : (n : ℕ) (left order : List ℕ) → n < length left → IsQueue left order → left_of left n ≡ 1 →
    Reported (n ∷ []) left order (set left n 0) (order ++ n ∷ [])
reported_last n left order lt q e = record {
  count = length-set left n 0;
  fewer = λ m in_it. fewer_by_one n 0 left lt e m in_it;
  queue = record {
    here = λ m z. let p = times_push order n m in ⊎_elim
        (λ is.
        let k = subst (λ v. once n v ≡ 1) (sym is) (once_same n) in
        let o = q.not_yet m (subst (λ v. 0 < left_of left v) (sym is) (omega (arith, e))) in
        omega (arith, p, k, o))
        (λ ne.
        let k = once_other n m (λ w. ne (sym w)) in
        let o = q.here m (sym (get_or-set_other left n m 0 1 ne) ∙ z) in
        omega (arith, p, k, o))
        (cases_eq m n);
    not_yet = λ m h. let p = times_push order n m in ⊎_elim
        (λ is. let z = subst (λ v. left_of (set left n 0) v ≡ 0) (sym is) (get_or-set_same left n 0 1 lt) in
        absurd (omega (arith, z, h)))
        (λ ne.
        let k = once_other n m (λ w. ne (sym w)) in
        let s = get_or-set_other left n m 0 1 ne in
        let o = q.not_yet m (omega (arith, s, h)) in
        omega (arith, p, k, o))
        (cases_eq m n);
    total =
        let w = waiting_done left n lt (omega (arith, e)) in
        let l = length-set left n 0 in
        let k = length-append order (n ∷ []) in
        let t = q.total in
        omega (arith, w, l, k, t);
  };
  added = n ∷ [];
  grows = refl;
}

-- a number that needs more than one stays out
pub reported_still : (n k : ℕ) (left order : List ℕ) → n < length left → IsQueue left order →
    left_of left n ≡ suc (suc k) → Reported (n ∷ []) left order (set left n (suc k)) order
reported_still n k left order lt q e = record {
  count = length-set left n (suc k);
  fewer = λ m in_it. fewer_by_one n (suc k) left lt e m in_it;
  queue = record {
    here = λ m z. ⊎_elim
        (λ is. let s = subst (λ v. left_of (set left n (suc k)) v ≡ suc k) (sym is)
        (get_or-set_same left n (suc k) 1 lt) in absurd (omega (arith, z, s)))
        (λ ne. q.here m (sym (get_or-set_other left n m (suc k) 1 ne) ∙ z))
        (cases_eq m n);
    not_yet = λ m h. ⊎_elim
        (λ is. q.not_yet m (subst (λ v. 0 < left_of left v) (sym is) (omega (arith, e))))
        (λ ne. let s = get_or-set_other left n m (suc k) 1 ne in q.not_yet m (omega (arith, s, h)))
        (cases_eq m n);
    total =
        let w = waiting_still left n k lt (omega (arith, e)) in
        let l = length-set left n (suc k) in
        let t = q.total in
        omega (arith, w, l, t);
  };
  added = [];
  grows = sym (append-nil order);
}

pub reported_none : (left order : List ℕ) → IsQueue left order → Reported [] left order left order
reported_none left order q = record {
  count = refl;
  fewer = λ m lt. omega arith;
  queue = q;
  added = [];
  grows = sym (append-nil order);
}

-- counting down by one more
pub reported_push : (users : List ℕ) (n : ℕ) (a o b p c q : List ℕ) → Reported users a o b p
    → Reported (n ∷ []) b p c q →
    Reported (users ++ n ∷ []) a o c q
reported_push users n a o b p c q s t = record {
  count = t.count ∙ s.count;
  fewer = λ m in_it.
      let f = s.fewer m in_it in
      let g = t.fewer m (let l = s.count in omega (arith, l, in_it)) in
      let k = times-append users (n ∷ []) m in
      omega (arith, f, g, k);
  queue = t.queue;
  added = s.added ++ t.added;
  grows = t.grows ∙ ap (λ v. v ++ t.added) s.grows ∙ append_assoc o s.added t.added;
}

-- what one number needs, by how much it needed
pub reported_if_last : (n : ℕ) (left order : List ℕ) → n < length left → IsQueue left order → get_or left n 0 ≡ 1 →
    Reported (n ∷ []) left order (set left n (get_or left n 0 - 1)) (order ++ n ∷ [])
reported_if_last n left order lt q e = rw e (reported_last n left order lt q (other_default left n 1 0 lt ∙ e))

pub reported_if_done : (n : ℕ) (left order : List ℕ) → n < length left → IsQueue left order → get_or left n 0 ≤ 0 →
    Reported (n ∷ []) left order left order
reported_if_done n left order lt q le = let d = other_default left n 1 0 lt in
    reported_done n left order q (omega (arith, d, le))

pub reported_if_more : (n : ℕ) (left order : List ℕ) → n < length left → IsQueue left order → 0 < get_or left n 0 →
    get_or left n 0 ≢ 1 → Reported (n ∷ []) left order (set left n (get_or left n 0 - 1)) order
reported_if_more n left order lt q more ne = cases (get_or left n 0) refl
  where
    cases : (k : ℕ) → get_or left n 0 ≡ k → Reported (n ∷ []) left order (set left n (get_or left n 0 - 1)) order
    cases zero e = absurd (omega (arith, e, more))
    cases (suc zero) e = absurd (ne (e))
    cases (suc (suc k)) e =
        let less : get_or left n 0 - 1 ≡ suc k = omega (arith, e) in
        rw less (reported_still n k left order lt q (other_default left n 1 0 lt ∙ e))

-- one more that needs nothing, or something
pub ready_in : (left order : List ℕ) (i : ℕ) → i < length left → IsQueue (take i left) order → get_or left i 0 ≡ 0 →
    IsQueue (take (i + 1) left) (order ++ i ∷ [])
ready_in left order i lt q e =
    let l = length-take i left in
    let here : length (take i left) ≡ i = omega (arith, l, lt) in
    rw (
      add-one i,
      take-suc left i 0,
      e,
    ) (subst (λ v. IsQueue (take i left ++ 0 ∷ []) (order ++ v ∷ [])) here (queue_zero (take i left) order q))

pub ready_out : (left order : List ℕ) (i : ℕ) → i < length left → IsQueue (take i left) order → get_or left i 0 ≢ 0 →
    IsQueue (take (i + 1) left) order
ready_out left order i lt q ne = rw (add-one i, take-suc left i 0) (cases (get_or left i 0) refl)
  where
    cases : (k : ℕ) → get_or left i 0 ≡ k → IsQueue (take i left ++ get_or left i 0 ∷ []) order
    cases zero e = absurd (ne e)
    cases (suc k) e = rw e (queue_more (take i left) order k q)
