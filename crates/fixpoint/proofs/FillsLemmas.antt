-- Distances as the queue is worked off.
-- Serves: chains_from
use Rattle.std.proofs.Common.{◌≡◌, ℕ, zero, suc, ◌+◌, ◌-◌, ◌<◌, ◌≤◌, List, [], ◌∷◌, ◌++◌, length, take, set, get_or}
use Rattle.std.proofs.Common.{Option, Some, None, Contains, refl, sym, subst, ap, arith, ⊎_elim, inl, inr, ◌⊎◌, ◌∙◌}
use Rattle.std.proofs.Common.{length-append, add-one, append_assoc, replicate}
use Rattle.std.proofs.lemmas.List.{length-set, append-nil}
use Rattle.std.proofs.lemmas.List.Elements.{Contains-push, Contains-push_cases, Contains-append_left}
use Rattle.std.proofs.lemmas.Option.{slice_get_within, slice_get-get_or}
use Rattle.std.proofs.Math.Seq.{take-suc}
use Rattle.fixpoint.specs.StepRows.{row_at}
use Rattle.fixpoint.specs.Way.{At}
use Rattle.fixpoint.proofs.AtLemmas.{at_one, at_append_left, at_append_right, at_append_cases, set_same}
use Rattle.fixpoint.proofs.AtLemmas.{set_other, set_cases}
use Rattle.fixpoint.proofs.ContainsLemmas.{none_of, only_one, in_first, in_get, get_in}
use Rattle.fixpoint.specs.Distances.{Steps, no_step, one_more, AreDistances}
use Rattle.fixpoint.specs.Fills.{untold_count, Queues, IsFilling, LeadsNear, Waits}

some_of : (o : Option ℕ) → (o ≡ None → ⊥) → (n : ℕ) × (o ≡ Some n)
some_of None h = absurd (h refl)
some_of (Some n) h = (n, refl)

pub reported_at : (far : List (Option ℕ)) (m : ℕ) → m < length far → (get_or far m None ≡ None → ⊥)
    → (n : ℕ) × At far m (Some n)
reported_at far m lt h = let k = some_of (get_or far m None) h in (k.0, slice_get-get_or far m None lt ∙ ap Some k.1)

pub untold_count_set : (far : List (Option ℕ)) (i d : ℕ) → i < length far → get_or far i None ≡ None
    → untold_count (set far i (Some d)) + 1 ≡ untold_count far
untold_count_set [] i d lt h = absurd (omega arith)
untold_count_set (None ∷ far) zero d lt h = refl
untold_count_set (Some e ∷ far) zero d lt h = absurd (cc h)
untold_count_set (None ∷ far) (suc i) d lt h = let k = untold_count_set far i d (omega arith) h in omega (arith, k)
untold_count_set (Some e ∷ far) (suc i) d lt h = untold_count_set far i d (omega arith) h

pub meets_none : (d : ℕ) (far : List (Option ℕ)) (queue : List ℕ) → Queues [] d far queue far queue
meets_none d far queue = record {
  count = refl;
  added = [];
  is = sym (append-nil queue);
  kept = λ v n h. h;
  only = λ v n h. inl h;
  all = λ v h. absurd (none_of v h);
  new = λ v h. absurd (none_of v h);
  left = refl;
}

pub meets_old : (x d : ℕ) (far : List (Option ℕ)) (queue : List ℕ) → x < length far
    → (get_or far x None ≡ None → ⊥) → Queues (x ∷ []) d far queue far queue
meets_old x d far queue lt reported = record {
  count = refl;
  added = [];
  is = sym (append-nil queue);
  kept = λ v n h. h;
  only = λ v n h. inl h;
  all = λ v h. subst (λ w. (n : ℕ) × At far w (Some n)) (only_one x v h) (reported_at far x lt reported);
  new = λ v h. absurd (none_of v h);
  left = refl;
}

pub meets_new : (x d : ℕ) (far : List (Option ℕ)) (queue : List ℕ) → x < length far → get_or far x None ≡ None
    → Queues (x ∷ []) d far queue (set far x (Some d)) (queue ++ x ∷ [])
meets_new x d far queue lt untold = record {
  count = length-set far x (Some d);
  added = x ∷ [];
  is = refl;
  kept = λ v n h. set_other far x v (Some d) (Some n) (λ e. not_reported n (subst (λ w. At far w (Some n)) e h)) h;
  only = λ v n h. ⊎_elim
      (λ here. inr (
        subst (λ w. Contains (x ∷ []) w) (sym here.0) (in_first x []),
        cc here.1,
        subst (λ w. Contains (x ∷ []) w) (sym here.0) (in_first x []),
      ))
      (λ there. inl there.1)
      (set_cases far x v (Some d) (Some n) h);
  all = λ v h. subst (λ w. (n : ℕ) × At (set far x (Some d)) w (Some n)) (only_one x v h)
      (d, set_same far x (Some d) lt);
  new = λ v h. subst (λ w. At (set far x (Some d)) w (Some d)) (only_one x v h) (set_same far x (Some d) lt);
  left = let u = untold_count_set far x d lt untold in let l = length-append queue (x ∷ []) in omega (arith, u, l);
}
  where
    not_reported : (n : ℕ) → At far x (Some n) → ⊥
    not_reported n h = let e = sym h ∙ (slice_get-get_or far x None lt ∙ ap Some untold) in cc e

pub meets_push : (row : List ℕ) (x d : ℕ) (a b c : List (Option ℕ)) (q r t : List ℕ) → Queues row d a q b r
    → Queues (x ∷ []) d b r c t → Queues (row ++ x ∷ []) d a q c t
meets_push row x d a b c q r t g h = record {
  count = h.count ∙ g.count;
  added = g.added ++ h.added;
  is = h.is ∙ (ap (λ z. z ++ h.added) g.is ∙ append_assoc q g.added h.added);
  kept = λ v n k. h.kept v n (g.kept v n k);
  only = λ v n k. ⊎_elim
      (λ old. ⊎_elim
      (λ first. inl first)
      (λ new. inr (
        Contains-append_left row (x ∷ []) v new.0,
        new.1,
        Contains-append_left g.added h.added v new.2,
      ))
      (g.only v n old))
      (λ new. inr (
        subst (λ w. Contains (row ++ x ∷ []) w) (only_one x v new.0) (Contains-push row x),
        new.1,
        after v new.2,
      ))
      (h.only v n k);
  all = λ v k. ⊎_elim
      (λ old. let w = g.all v old in (w.0, h.kept v w.0 w.1))
      (λ is. h.all v (subst (λ w. Contains (x ∷ []) w) is (in_first x [])))
      (Contains-push_cases row x v k);
  new = λ v k. ⊎_elim
      (λ at. h.kept v d (g.new v (in_get g.added at.0 v at.1)))
      (λ at. h.new v (in_get h.added at.0 v at.1))
      (old_or_new v k);
  left = h.left ∙ g.left;
}
  where
    after : (v : ℕ) → Contains h.added v → Contains (g.added ++ h.added) v
    after v k = let at = get_in h.added v k in
        in_get (g.added ++ h.added) (length g.added + at.0) v (at_append_right g.added h.added at.0 v at.1)

    old_or_new : (v : ℕ) → Contains (g.added ++ h.added) v
        → ((i : ℕ) × At g.added i v) ⊎ ((i : ℕ) × At h.added i v)
    old_or_new v k = let at = get_in (g.added ++ h.added) v k in ⊎_elim
        (λ old. inl (at.0, old))
        (λ new. inr (new.0, new.2))
        (at_append_cases g.added h.added at.0 v at.1)

pub meets_next : (row : List ℕ) (i x d : ℕ) {a b c : List (Option ℕ)} {q r t : List ℕ} → i < length row
    → x ≡ get_or row i 0 → Queues (take i row) d a q b r → Queues (x ∷ []) d b r c t
    → Queues (take (i + 1) row) d a q c t
meets_next row i x d {a} {b} {c} {q} {r} {t} lt is g h =
    rw (add-one i, take-suc row i 0, sym is) (meets_push (take i row) x d a b c q r t g h)

pub none_reported : (count v k : ℕ) → At (replicate count None) v (Some k) → ⊥
none_reported zero v k h = cc h
none_reported (suc count) zero k h = cc h
none_reported (suc count) (suc v) k h = none_reported count v k h

module _ (rows : List (List ℕ)) (s : ℕ) where
  -- the start alone is in the queue
  pub filling_start : (count : ℕ) (a b : List (Option ℕ)) (o queue : List ℕ) → count ≡ length rows
      → a ≡ replicate count None
      → length a ≡ count → o ≡ [] → Queues (s ∷ []) 0 a o b queue → IsFilling rows s b queue 0
  filling_start count a b o queue size fresh full empty g = record {
    count = g.count ∙ (full ∙ size);
    within = omega arith;
    start = let w = g.all s (in_first s []) in subst (λ z. At b s (Some z)) (is_zero s w.0 w.1) w.1;
    sound = λ v n h. subst (λ z. Steps rows s z n) (is_start v n h) (subst (λ z. Steps rows s s z)
        (sym (is_zero v n h)) no_step);
    done = λ v n h. inl (waits v (is_added v n h));
    queued = λ p v h. (0, g.new v (in_added p v h), omega arith);
    sorted = λ p q v w i j le lf at bt h k. let e = is_zero v i h in omega (arith, e);
    near = λ p v w i j le at h k. let e = is_zero w j k in omega (arith, e);
  }
    where
      not_reported : (v n : ℕ) → At a v (Some n) → ⊥
      not_reported v n h = none_reported count v n (subst (λ z. At z v (Some n)) fresh h)

      is_zero : (v n : ℕ) → At b v (Some n) → n ≡ 0
      is_zero v n h = ⊎_elim (λ old. absurd (not_reported v n old)) (λ new. new.1) (g.only v n h)

      is_start : (v n : ℕ) → At b v (Some n) → s ≡ v
      is_start v n h = ⊎_elim (λ old. absurd (not_reported v n old)) (λ new. only_one s v new.0) (g.only v n h)

      is_added : (v n : ℕ) → At b v (Some n) → Contains g.added v
      is_added v n h = ⊎_elim (λ old. absurd (not_reported v n old)) (λ new. new.2) (g.only v n h)

      whole : queue ≡ g.added
      whole = g.is ∙ ap (λ z. z ++ g.added) empty

      in_added : (p v : ℕ) → At queue p v → Contains g.added v
      in_added p v h = in_get g.added p v (subst (λ z. At z p v) whole h)

      waits : (v : ℕ) → Contains g.added v → Waits queue 0 v
      waits v h = let at = get_in g.added v h in record {
        position = at.0;
        after = omega arith;
        at = subst (λ z. At z at.0 v) (sym whole) at.1;
      }

  module _ {a b : List (Option ℕ)} {q r : List ℕ} (head n d : ℕ) (here : At q head n) (far : At a n (Some d))
      (k : IsFilling rows s a q head) (g : Queues (row_at rows n) (d + 1) a q b r) where
    head_inside : head < length q
    head_inside = slice_get_within q head n here

    head_is_low : d ≤ head
    head_is_low = let w = k.queued head n here in
        let e : Some w.0 ≡ Some d = at_one a n (Some w.0) (Some d) w.1 far in
        let f : w.0 ≡ d = cc e in
        let l = w.2 in omega (arith, f, l)

    old_or_new : (p v : ℕ) → At r p v → At q p v ⊎ ((length q ≤ p) × Contains g.added v)
    old_or_new p v h = ⊎_elim
        (λ old. inl old)
        (λ new. inr (let e = new.1 in omega (arith, e), in_get g.added new.0 v new.2))
        (at_append_cases q g.added p v (subst (λ z. At z p v) g.is h))

    old_at : (p v : ℕ) → At q p v → At r p v
    old_at p v h = subst (λ z. At z p v) (sym g.is) (at_append_left q g.added p v h)

    -- the distance of a number that stood in the queue is as it was
    old_reported : (p v i : ℕ) → At q p v → At b v (Some i) → At a v (Some i)
    old_reported p v i h t = let w = k.queued p v h in
        let e : Some w.0 ≡ Some i = at_one b v (Some w.0) (Some i) (g.kept v w.0 w.1) t in
        let f : w.0 ≡ i = cc e in
        subst (λ z. At a v (Some z)) f w.1

    -- the distance of a number that stands later is the new one
    new_reported : (v i : ℕ) → Contains g.added v → At b v (Some i) → i ≡ d + 1
    new_reported v i h t = let e : Some i ≡ Some (d + 1) = at_one b v (Some i) (Some (d + 1)) t (g.new v h) in cc e

    -- no distance is beyond the new one
    near_head : (w j : ℕ) → At b w (Some j) → j ≤ d + 1
    near_head w j t = ⊎_elim
        (λ old. k.near head n w d j (omega arith) here far old)
        (λ new. let e = new.1 in omega (arith, e))
        (g.only w j t)

    head_leads_near : LeadsNear rows b n d
    head_leads_near m step = let w = g.all m step in (w.0, w.1, near_head m w.0 w.1)

    waits_on : (v m : ℕ) → At b v (Some m) → Waits q head v → Waits r (head + 1) v ⊎ LeadsNear rows b v m
    waits_on v m t w = ⊎_elim
        (λ is. inr (
        let same : n ≡ v = at_one q head n v here (subst (λ z. At q z v) is w.at) in
        let e : Some d ≡ Some m = at_one b v (Some d) (Some m) (subst (λ z. At b z (Some d)) same
        (g.kept n d far)) t in
        let f : d ≡ m = cc e in
        subst (λ z. LeadsNear rows b v z) f (subst (λ z. LeadsNear rows b z d) same head_leads_near)
        ))
        (λ lt. inl (record { position = w.position; after = omega (arith, lt); at = old_at w.position v w.at }))
        (split w.position head w.after)
      where
        split : (p h : ℕ) → h ≤ p → (p ≡ h) ⊎ (h < p)
        split zero zero le = inl refl
        split zero (suc h) le = absurd (omega (arith, le))
        split (suc p) zero le = inr (omega arith)
        split (suc p) (suc h) le = ⊎_elim (λ is. inl (ap suc is)) (λ lt. inr (omega (arith, lt)))
            (split p h (omega (arith, le)))

    pub filling_next : IsFilling rows s b r (head + 1)
    filling_next = record {
      count = g.count ∙ k.count;
      within = let e = ap length g.is in let l = length-append q g.added in let lt = head_inside in
          omega (arith, e, l, lt);
      start = g.kept s 0 k.start;
      sound = λ v m t. ⊎_elim
          (λ old. k.sound v m old)
          (λ new. let e = new.1 in let f : suc d ≡ m = omega (arith, e) in
          subst (λ z. Steps rows s v z) f (one_more (k.sound n d far) new.0))
          (g.only v m t);
      done = λ v m t. ⊎_elim
          (λ old. ⊎_elim
          (λ w. waits_on v m t w)
          (λ shut. inr (λ w step. let x = shut w step in (x.0, g.kept w x.0 x.1, x.2)))
          (k.done v m old))
          (λ new. inl (let at = get_in g.added v new.2 in let lt = head_inside in record {
            position = length q + at.0;
            after = omega (arith, lt);
            at = subst (λ z. At z (length q + at.0) v) (sym g.is) (at_append_right q g.added at.0 v at.1);
          }))
          (g.only v m t);
      queued = λ p v h. ⊎_elim
          (λ old. let w = k.queued p v old in (w.0, g.kept v w.0 w.1, w.2))
          (λ new. (
            d + 1,
            g.new v new.1,
            let l = head_is_low in let lt = head_inside in let e = new.0 in omega (arith, l, lt, e),
          ))
          (old_or_new p v h);
      sorted = λ p p' v w i j le lf at bt t u. ⊎_elim
          (λ old. ⊎_elim
          (λ old'. k.sorted p p' v w i j (omega (arith, le)) lf old old' (old_reported p v i old t)
          (old_reported p' w j old' u))
          (λ new'. let e = new_reported w j new'.1 u in let f = near_head v i t in omega (arith, e, f))
          (old_or_new p' w bt))
          (λ new. ⊎_elim
          (λ old'. let x = new.0 in let y = slice_get_within q p' w old' in absurd (omega (arith, x, y, lf)))
          (λ new'. let e = new_reported v i new.1 t in let f = new_reported w j new'.1 u in omega (arith, e, f))
          (old_or_new p' w bt))
          (old_or_new p v at);
      near = λ p v w i j le at t u. ⊎_elim
          (λ old. let o = old_reported p v i old t in ⊎_elim
          (λ old'. k.near p v w i j (omega (arith, le)) old o old')
          (λ new'. let x = k.sorted head p n v d i (omega arith) (omega (arith, le)) here old far o in
          let e = new'.1 in omega (arith, x, e))
          (g.only w j u))
          (λ new. let e = new_reported v i new.1 t in let f = near_head w j u in omega (arith, e, f))
          (old_or_new p v at);
    }

    pub filling_falls : (untold_count b + length r) - (head + 1) < (untold_count a + length q) - head
    filling_falls = let e = g.left in let lt = head_inside in omega (arith, e, lt)

  module _ (far : List (Option ℕ)) (queue : List ℕ) (head : ℕ) (k : IsFilling rows s far queue head)
      (end : length queue ≤ head) where
    none_waits : (v : ℕ) → Waits queue head v → ⊥
    none_waits v w = let lt = slice_get_within queue w.position v w.at in let le = w.after in omega (arith, lt, le, end)

    reached_within : (v n : ℕ) → Steps rows s v n → (d : ℕ) × At far v (Some d) × (d ≤ n)
    reached_within v n no_step = (0, k.start, omega arith)
    reached_within v n (one_more {u = u} {n = m} c step) =
        let w = reached_within u m c in
        ⊎_elim
        (λ waits. absurd (none_waits u waits))
        (λ shut. let x = shut v step in (x.0, x.1, let a = x.2 in let b = w.2 in omega (arith, a, b)))
        (k.done u w.0 w.1)

    pub filling_done : AreDistances rows s far
    filling_done = record {
      count = k.count;
      sound = λ v n t. record {
        chain = k.sound v n t;
        least = λ m c. let w = reached_within v m c in
            let e : Some w.0 ≡ Some n = at_one far v (Some w.0) (Some n) w.1 t in
            let f : w.0 ≡ n = cc e in
            let l = w.2 in omega (arith, f, l);
      };
      whole = λ v n c. let w = reached_within v n c in (w.0, w.1);
    }

pub head_at : (queue : List ℕ) (head n : ℕ) → head < length queue → n ≡ get_or queue head n → At queue head n
head_at queue head n lt is = slice_get-get_or queue head n lt ∙ ap Some (sym is)

pub far_at : (far : List (Option ℕ)) (n d : ℕ) (o : Option ℕ) → n < length far → o ≡ get_or far n o → o ≡ Some d
    → At far n (Some d)
far_at far n d o lt is reported = slice_get-get_or far n o lt ∙ ap Some (sym is ∙ reported)

module _ (rows : List (List ℕ)) (s : ℕ) (far : List (Option ℕ)) (queue : List ℕ) (head n : ℕ)
    (k : IsFilling rows s far queue head) (here : At queue head n) where
  -- the number at the head has a distance, which is not beyond the head
  pub head_reported : (d : ℕ) × At far n (Some d) × (d ≤ head)
  head_reported = k.queued head n here

  pub head_within : n < length far
  head_within = let w = head_reported in slice_get_within far n (Some w.0) w.1

  pub head_low : (d : ℕ) → At far n (Some d) → d ≤ head
  head_low d t =
      let w = head_reported in
      let e : Some w.0 ≡ Some d = at_one far n (Some w.0) (Some d) w.1 t in
      let f : w.0 ≡ d = cc e in
      let l = w.2 in
      omega (arith, f, l)
