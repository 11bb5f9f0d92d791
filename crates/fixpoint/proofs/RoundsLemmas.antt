-- The nearest number from which a step leads back.
-- Serves: way_back, one_way_back
use Rattle.std.proofs.Common.{◌≡◌, ◌<◌, ◌≤◌, ◌+◌, ℕ, List, length, Option, Some, None, refl, sym, subst, arith}
use Rattle.std.proofs.Common.{⊎_elim}
use Rattle.std.proofs.lemmas.Bool.{cases_lt}
use Rattle.std.proofs.lemmas.Option.{slice_get_within}
use Rattle.fixpoint.specs.StepRows.{Step}
use Rattle.fixpoint.specs.Way.{At}
use Rattle.fixpoint.specs.Distances.{AreDistances}
use Rattle.fixpoint.specs.Fills.{IsLess, IsNearestBelow, IsNearestIfAny}
use Rattle.fixpoint.specs.ShortChains.{IsChainIfReached, IsLastBack, IsRoundIfAny, IsWayBack}
use Rattle.fixpoint.specs.declared.rounds.Near.{Near}
use Rattle.fixpoint.proofs.DistanceLemmas.{distance_reported}
use Rattle.fixpoint.proofs.ShortChainsLemmas.{chain_is_one}

module _ (rows : List (List ℕ)) (s : ℕ) (far : List (Option ℕ)) where
  -- a number that is not the next one stands before it
  before_next : (w i : ℕ) → w < i + 1 → (w ≡ i → ⊥) → w < i
  before_next w i lt other = ⊎_elim (λ less. less) (λ most. absurd (other (omega (arith, lt, most)))) (cases_lt w i)

  -- the next number is none from which a step leads back, or has no distance
  pub nearest_stays : (i : ℕ) (best : Option Near) → ((m : ℕ) → At far i (Some m) → Step rows i s → ⊥)
      → IsNearestIfAny rows s far i best → IsNearestIfAny rows s far (i + 1) best
  nearest_stays i None none h = λ w m lt at step.
      h w m (before_next w i lt (λ e. none m (subst (λ k. At far k (Some m)) e at) (subst (λ k. Step rows k s) e step)))
      at step
  nearest_stays i (Some b) none h = record {
    below = (let low = h.below in omega (arith, low));
    at = h.at;
    step = h.step;
    nearest = λ w m lt at step. h.nearest w m (before_next w i lt
        (λ e. none m (subst (λ k. At far k (Some m)) e at) (subst (λ k. Step rows k s) e step))) at step;
    first = λ w lt at step. h.first w (before_next w i lt
        (λ e. none b.far (subst (λ k. At far k (Some b.far)) e at) (subst (λ k. Step rows k s) e step))) at step;
  }

  one_far : (w i m n : ℕ) → w ≡ i → At far w (Some m) → At far i (Some n) → m ≡ n
  one_far w i m n e a b = (let c : At far i (Some m) = subst (λ k. At far k (Some m)) e a in cc)

  -- the next one is no nearer
  nearest_holds : (i n : ℕ) (b : Near) → At far i (Some n) → b.far ≤ n → IsNearestBelow rows s far i b.number b.far
      → IsNearestBelow rows s far (i + 1) b.number b.far
  nearest_holds i n b there most h = record {
    below = (let low = h.below in omega (arith, low));
    at = h.at;
    step = h.step;
    nearest = λ w m lt at step. ⊎_elim (λ less. h.nearest w m less at step)
        (λ rest. let e = one_far w i m n (omega (arith, lt, rest)) at there in omega (arith, e, most)) (cases_lt w i);
    first = λ w lt at step. ⊎_elim (λ less. h.first w less at step)
        (λ rest. let low = h.below in omega (arith, rest, low)) (cases_lt w i);
  }

  pub nearest_kept : (i n : ℕ) (best : Option Near) → At far i (Some n) → (IsLess n best → ⊥)
      → IsNearestIfAny rows s far i best → IsNearestIfAny rows s far (i + 1) best
  nearest_kept i n None there most h = absurd (most tt)
  nearest_kept i n (Some b) there most h = nearest_holds i n b there
      (⊎_elim (λ less. absurd (most less)) (λ le. le) (cases_lt n b.far)) h

  -- the next one is the nearest
  pub nearest_next : (i n : ℕ) (best : Option Near) → At far i (Some n) → Step rows i s → IsLess n best
      → IsNearestIfAny rows s far i best → IsNearestBelow rows s far (i + 1) i n
  nearest_next i n best there step less h = record {
    below = omega arith;
    at = there;
    step = step;
    nearest = λ w m lt at back. ⊎_elim (λ low. nearer best less h w m low at back)
        (λ rest. let e = one_far w i m n (omega (arith, lt, rest)) at there in omega (arith, e)) (cases_lt w i);
    first = λ w lt at back. ⊎_elim (λ low. absurd (farther best less h w low at back))
        (λ rest. omega (arith, rest)) (cases_lt w i);
  }
    where
      nearer : (o : Option Near) → IsLess n o → IsNearestIfAny rows s far i o → (w m : ℕ) → w < i → At far w (Some m)
          → Step rows w s → n ≤ m
      nearer None l k w m low at back = absurd (k w m low at back)
      nearer (Some b) l k w m low at back = let x = k.nearest w m low at back in omega (arith, l, x)

      farther : (o : Option Near) → IsLess n o → IsNearestIfAny rows s far i o → (w : ℕ) → w < i → At far w (Some n)
          → Step rows w s → ⊥
      farther None l k w low at back = k w n low at back
      farther (Some b) l k w low at back = let x = k.nearest w n low at back in omega (arith, l, x)

module _ (rows : List (List ℕ)) (s : ℕ) where
  -- the nearest of all numbers stands last on the way back
  pub last_found : (far : List (Option ℕ)) (count u n : ℕ) → AreDistances rows s far → count ≡ length rows
      → IsNearestBelow rows s far count u n → IsLastBack rows s u
  last_found far count u n are all h = record {
    n = n;
    way = record { far = are.sound u n h.at; step = h.step };
    nearest = λ w m back. h.nearest w m (within w m back) (distance_reported rows s far w m are back.far) back.step;
    first = λ w back. h.first w (within w n back) (distance_reported rows s far w n are back.far) back.step;
  }
    where
      within : (w m : ℕ) → IsWayBack rows s w m → w < count
      within w m back =
          let lt = slice_get_within far w (Some m) (distance_reported rows s far w m are back.far) in
          let k = are.count in
          omega (arith, lt, k, all)

  pub none_back : (far : List (Option ℕ)) (count : ℕ) → AreDistances rows s far → count ≡ length rows
      → IsNearestIfAny rows s far count None → (u n : ℕ) → IsWayBack rows s u n → ⊥
  none_back far count are all h u n back =
      let at = distance_reported rows s far u n are back.far in
      let lt = slice_get_within far u (Some n) at in
      let k = are.count in
      h u n (omega (arith, lt, k, all)) at back.step

  last_is_one : (u v : ℕ) → IsLastBack rows s u → IsLastBack rows s v → u ≡ v
  last_is_one u v a b =
      let p = a.nearest v b.n b.way in
      let q = b.nearest u a.n a.way in
      let same : a.n ≡ b.n = omega (arith, p, q) in
      let x = a.first v (subst (λ k. IsWayBack rows s v k) (sym same) b.way) in
      let y = b.first u (subst (λ k. IsWayBack rows s u k) same a.way) in
      omega (arith, x, y)

  pub round_is_one : (a b : Option (List ℕ)) → IsRoundIfAny rows s a → IsRoundIfAny rows s b → a ≡ b
  round_is_one None None g h = refl
  round_is_one None (Some b) g h = absurd (g h.last h.is_last.n h.is_last.way)
  round_is_one (Some a) None g h = absurd (h g.last g.is_last.n g.is_last.way)
  round_is_one (Some a) (Some b) g h =
      let same = last_is_one h.last g.last h.is_last g.is_last in
      chain_is_one rows s g.last (Some a) (Some b) g.is_chain
      (subst (λ v. IsChainIfReached rows s v (Some b)) same h.is_chain)

  -- the chain to it is the way back
  pub round_found : (u : ℕ) (chain : Option (List ℕ)) → IsLastBack rows s u → IsChainIfReached rows s u chain
      → IsRoundIfAny rows s chain
  round_found u None l c = absurd (c l.n l.way.far.chain)
  round_found u (Some chain) l c = record { last = u; is_last = l; is_chain = c }
