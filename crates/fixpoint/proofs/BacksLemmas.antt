-- The predecessors, number by number.
-- Serves: chains_from
use Rattle.std.proofs.Common.{◌≡◌, ℕ, suc, ◌+◌, ◌<◌, List, [], ◌∷◌, ◌++◌, length, take, set, get_or}
use Rattle.std.proofs.Common.{Option, Some, None, Contains, refl, sym, subst, ap, arith, ⊎_elim, inl, inr, ◌⊎◌, ◌∙◌}
use Rattle.std.proofs.Common.{add-one, replicate}
use Rattle.std.proofs.lemmas.Bool.{cases_lt}
use Rattle.std.proofs.lemmas.List.{length-set}
use Rattle.std.proofs.lemmas.List.Elements.{Contains-push, Contains-push_cases, Contains-append_left}
use Rattle.std.proofs.lemmas.Option.{slice_get_within, slice_get-get_or}
use Rattle.std.proofs.Math.Seq.{take-suc}
use Rattle.fixpoint.specs.StepRows.{Step, row_at}
use Rattle.fixpoint.specs.Way.{At}
use Rattle.fixpoint.proofs.AtLemmas.{at_one, set_same, set_other, set_cases}
use Rattle.fixpoint.proofs.ContainsLemmas.{none_of, only_one, in_first}
use Rattle.fixpoint.specs.Distances.{AreDistances}
use Rattle.fixpoint.specs.Fills.{AreBacksTo, IsNext, SetsBacks}
use Rattle.fixpoint.specs.ShortChains.{AreBacks, Back}
use Rattle.fixpoint.proofs.DistanceLemmas.{distance_reported}
use Rattle.fixpoint.proofs.FillsLemmas.{none_reported, reported_at}

pub untold_not : (far : List (Option ℕ)) (n d : ℕ) → n < length far → get_or far n None ≡ None → At far n (Some d) → ⊥
untold_not far n d lt is h = let e = sym h ∙ (slice_get-get_or far n None lt ∙ ap Some is) in cc e

pub reported_here : (far : List (Option ℕ)) (n d : ℕ) → n < length far → get_or far n None ≡ Some d → At far n (Some d)
reported_here far n d lt is = slice_get-get_or far n None lt ∙ ap Some is

pub next_by : (far : List (Option ℕ)) (n m d e : ℕ) → At far n (Some d) → At far m (Some e) → d + 1 ≡ e → IsNext far n m
next_by far n m d e a b is = record {
  d = d;
  first = a;
  second = let f : e ≡ suc d = omega (arith, is) in subst (λ z. At far m (Some z)) f b;
}

pub next_is : (far : List (Option ℕ)) (n m d e : ℕ) → At far n (Some d) → At far m (Some e) → IsNext far n m → d + 1 ≡ e
next_is far n m d e a b h =
    let f : Some d ≡ Some h.d = at_one far n (Some d) (Some h.d) a h.first in
    let g : Some e ≡ Some (suc h.d) = at_one far m (Some e) (Some (suc h.d)) b h.second in
    let p : d ≡ h.d = cc f in
    let q : e ≡ suc h.d = cc g in
    omega (arith, p, q)

pub sets_none : (far : List (Option ℕ)) (n : ℕ) (backs : List (Option ℕ)) → SetsBacks far n [] backs backs
sets_none far n backs = record {
  count = refl;
  kept = λ v u h. h;
  only = λ v u h. inl h;
  all = λ v h k. absurd (none_of v h);
}

pub sets_reported : (far : List (Option ℕ)) (n m : ℕ) (backs : List (Option ℕ)) → m < length backs
    → (get_or backs m None ≡ None → ⊥) → SetsBacks far n (m ∷ []) backs backs
sets_reported far n m backs lt reported = record {
  count = refl;
  kept = λ v u h. h;
  only = λ v u h. inl h;
  all = λ v h k. subst (λ z. (u : ℕ) × At backs z (Some u)) (only_one m v h) (reported_at backs m lt reported);
}

pub sets_far : (far : List (Option ℕ)) (n m : ℕ) (backs : List (Option ℕ)) → (IsNext far n m → ⊥)
    → SetsBacks far n (m ∷ []) backs backs
sets_far far n m backs not = record {
  count = refl;
  kept = λ v u h. h;
  only = λ v u h. inl h;
  all = λ v h k. absurd (not (subst (λ z. IsNext far n z) (sym (only_one m v h)) k));
}

pub sets_new : (far : List (Option ℕ)) (n m : ℕ) (backs : List (Option ℕ)) → m < length backs
    → get_or backs m None ≡ None → IsNext far n m → SetsBacks far n (m ∷ []) backs (set backs m (Some n))
sets_new far n m backs lt untold next = record {
  count = length-set backs m (Some n);
  kept = λ v u h. set_other backs m v (Some n) (Some u)
      (λ e. untold_not backs m u lt untold (subst (λ z. At backs z (Some u)) e h)) h;
  only = λ v u h. ⊎_elim
      (λ here. inr (
        cc here.1,
        subst (λ z. Contains (m ∷ []) z) (sym here.0) (in_first m []),
        subst (λ z. IsNext far n z) (sym here.0) next,
        subst (λ z. At backs z None) (sym here.0) (slice_get-get_or backs m None lt ∙ ap Some untold),
      ))
      (λ there. inl there.1)
      (set_cases backs m v (Some n) (Some u) h);
  all = λ v h k. subst (λ z. (u : ℕ) × At (set backs m (Some n)) z (Some u)) (only_one m v h)
      (n, set_same backs m (Some n) lt);
}

pub sets_push : (far : List (Option ℕ)) (n m : ℕ) (row : List ℕ) (a b c : List (Option ℕ)) → SetsBacks far n row a b
    → SetsBacks far n (m ∷ []) b c → SetsBacks far n (row ++ m ∷ []) a c
sets_push far n m row a b c g h = record {
  count = h.count ∙ g.count;
  kept = λ v u k. h.kept v u (g.kept v u k);
  only = λ v u k. ⊎_elim
      (λ old. ⊎_elim
      (λ first. inl first)
      (λ new. inr (new.0, Contains-append_left row (m ∷ []) v new.1, new.2, new.3))
      (g.only v u old))
      (λ new. ⊎_elim
      (λ first. absurd (clash v first new.3))
      (λ blank. inr (
        new.0,
        subst (λ z. Contains (row ++ m ∷ []) z) (only_one m v new.1) (Contains-push row m),
        new.2,
        blank,
      ))
      (was v new.3))
      (h.only v u k);
  all = λ v k next. ⊎_elim
      (λ old. let w = g.all v old next in (w.0, h.kept v w.0 w.1))
      (λ is. h.all v (subst (λ z. Contains (m ∷ []) z) is (in_first m [])) next)
      (Contains-push_cases row m v k);
}
  where
    clash : (v : ℕ) → ((w : ℕ) × At b v (Some w)) → At b v None → ⊥
    clash v (w, h) k = let e : Some (Some w) ≡ Some None = sym h ∙ k in cc e

    -- what is blank now was so before
    was : (v : ℕ) → At b v None → ((w : ℕ) × At b v (Some w)) ⊎ At a v None
    was v k = ⊎_elim
        (λ blank. inr blank)
        (λ reported. inl (reported.0, g.kept v reported.0 reported.1))
        (either v (let lt = slice_get_within b v None k in let e = g.count in omega (arith, lt, e)))
      where
        case : (v : ℕ) (o : Option ℕ) → At a v o → At a v None ⊎ ((w : ℕ) × At a v (Some w))
        case v None h = inl h
        case v (Some w) h = inr (w, h)

        either : (v : ℕ) → v < length a → At a v None ⊎ ((w : ℕ) × At a v (Some w))
        either v lt = case v (get_or a v None) (slice_get-get_or a v None lt)

pub sets_next : (far : List (Option ℕ)) (n : ℕ) (row : List ℕ) (i m : ℕ) {a b c : List (Option ℕ)} → i < length row
    → m ≡ get_or row i 0 → SetsBacks far n (take i row) a b → SetsBacks far n (m ∷ []) b c
    → SetsBacks far n (take (i + 1) row) a c
sets_next far n row i m {a} {b} {c} lt is g h =
    rw (add-one i, take-suc row i 0, sym is) (sets_push far n m (take i row) a b c g h)

module _ (rows : List (List ℕ)) (s : ℕ) where
  pub backs_start : (count : ℕ) (backs : List (Option ℕ)) → count ≡ length rows → length backs ≡ count
      → backs ≡ replicate count None → AreBacksTo rows s backs 0
  backs_start count backs size full fresh = record {
    count = full ∙ size;
    sound = λ v u h. absurd (none_reported count v u (subst (λ z. At z v (Some u)) fresh h));
    whole = λ v u lt near. absurd (omega (arith, lt));
  }

  pub backs_next : (far : List (Option ℕ)) (i : ℕ) {a b : List (Option ℕ)} → AreDistances rows s far
      → SetsBacks far i (row_at rows i) a b → AreBacksTo rows s a i → AreBacksTo rows s b (i + 1)
  backs_next far i {a} {b} dist g k = record {
    count = g.count ∙ k.count;
    sound = λ v u h. ⊎_elim
        (λ old. k.sound v u old)
        (λ new. subst (λ z. Back rows s v z) (sym new.0) (record {
          nearer = record {
            n = new.2.d;
            far = dist.sound v (suc new.2.d) new.2.second;
            near = dist.sound i new.2.d new.2.first;
            step = new.1;
          };
          first = λ w near. ⊎_elim
              (λ lt. absurd (clash v (k.whole v w lt near) new.3))
              (λ le. le)
              (cases_lt w i);
        }))
        (g.only v u h);
    whole = λ v u lt near. ⊎_elim
        (λ less. let w = k.whole v u less near in (w.0, g.kept v w.0 w.1))
        (λ le. let e : u ≡ i = omega (arith, lt, le) in g.all v (subst (λ z. Step rows z v) e near.step) (record {
          d = near.n;
          first = subst (λ z. At far z (Some near.n)) e (distance_reported rows s far u near.n dist near.near);
          second = distance_reported rows s far v (suc near.n) dist near.far;
        }))
        (cases_lt u i);
  }
    where
      clash : (v : ℕ) → ((w : ℕ) × At a v (Some w)) → At a v None → ⊥
      clash v (w, h) l = let e : Some (Some w) ≡ Some None = sym h ∙ l in cc e

  pub backs_done : (far backs : List (Option ℕ)) → AreDistances rows s far → AreBacksTo rows s backs (length rows)
      → AreBacks rows s backs
  backs_done far backs dist k = record {
    count = k.count;
    sound = k.sound;
    whole = λ v u near. k.whole v u (let lt = slice_get_within far u (Some near.n)
        (distance_reported rows s far u near.n dist near.near) in let e = dist.count in omega (arith, lt, e)) near;
  }
