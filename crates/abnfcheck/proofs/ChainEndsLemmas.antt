-- The ends of a shortest chain, by the numbers before its last one.
-- Serves: chain_ends
use Rattle.std.proofs.Common.{◌≡◌, ℕ, zero, suc, ◌+◌, ◌-◌, ◌≤◌, List, [], ◌∷◌, ◌++◌, length, take, reverse}
use Rattle.std.proofs.Common.{Option, Some, refl, sym, ◌∙◌, ap, subst, arith, length-append, append_assoc, ⊎_elim}
use Rattle.std.proofs.Common.{min}
use Rattle.std.proofs.Math.Nat.{min-eq_left, min-eq_right}
use Rattle.std.proofs.Math.Seq.{drop-append_seam}
use Rattle.std.proofs.lemmas.Bool.{cases_lt}
use Rattle.std.proofs.lemmas.List.{append-nil, length-reverse, reverse-append}
use Rattle.fixpoint.specs.StepRows.{Step}
use Rattle.fixpoint.specs.Way.{At}
use Rattle.fixpoint.specs.Distances.{Distance, Steps, no_step, one_more}
use Rattle.fixpoint.specs.ShortChains.{AreBacks, Back, ChainTo, at_start, after}
use Rattle.abnfcheck.specs.NameChains.{AreLast}
use Rattle.abnfcheck.specs.declared.reached_names.ChainEnds.{ChainEnds}

module _ (rows : List (List ℕ)) (s : ℕ) where
  distance_is_one : (v n m : ℕ) → Distance rows s v n → Distance rows s v m → n ≡ m
  distance_is_one v n m d e = let a = d.least m e.chain in let b = e.least n d.chain in omega (arith, a, b)

  no_step_stays : (v : ℕ) → Steps rows s v 0 → v ≡ s
  no_step_stays v no_step = refl

  last_step : (v n : ℕ) → Steps rows s v (suc n) → (u : ℕ) × Steps rows s u n × Step rows u v
  last_step v n (one_more {u = u} c step) = (u, c, step)

  last_is_nearer : (u v n : ℕ) → Distance rows s v (suc n) → Steps rows s u n → Step rows u v → Distance rows s u n
  last_is_nearer u v n d c step = record {
    chain = c;
    least = λ m k. let l = d.least (suc m) (one_more k step) in omega (arith, l);
  }

  -- a number that is not the first has one before it
  pub back_is_listed : (backs : List (Option ℕ)) (v n : ℕ) → AreBacks rows s backs → Distance rows s v (suc n)
      → (u : ℕ) × At backs v (Some u)
  back_is_listed backs v n b d = let l = last_step v n d.chain in b.whole v l.0 (record {
    n = n;
    far = d;
    near = last_is_nearer l.0 v n d l.1 l.2;
    step = l.2;
  })

  pub back_is_nearer : (v u n : ℕ) → Back rows s v u → Distance rows s v (suc n) → Distance rows s u n
  back_is_nearer v u n b d =
      let e = distance_is_one v (suc b.nearer.n) (suc n) b.nearer.far d in
      let f : b.nearer.n ≡ n = omega (arith, e) in
      subst (λ z. Distance rows s u z) f b.nearer.near

  -- a number that is reached has a chain, of one number more than steps
  pub chain_exists : (backs : List (Option ℕ)) → AreBacks rows s backs → (n v : ℕ) → Distance rows s v n
      → (ids : List ℕ) × ChainTo rows s v ids × (length ids ≡ n + 1)
  chain_exists backs b zero v d =
      (s ∷ [], subst (λ z. ChainTo rows s z (s ∷ [])) (sym (no_step_stays v d.chain)) at_start, refl)
  chain_exists backs b (suc n) v d =
      let w = back_is_listed backs v n b d in
      let back = b.sound v w.0 w.1 in
      let c = chain_exists backs b n w.0 (back_is_nearer v w.0 n back d) in
      let l = length-append c.0 (v ∷ []) in
      (c.0 ++ v ∷ [], after back c.1, omega (arith, l, c.2))

  -- a chain begins with the first number
  pub chain_begins : (v : ℕ) (ids : List ℕ) → ChainTo rows s v ids → (rest : List ℕ) × (ids ≡ s ∷ rest)
  chain_begins v ids at_start = ([], refl)
  chain_begins v ids (after {v = w} {u = u} {ns = ns} back c) =
      let i = chain_begins u ns c in
      (i.0 ++ w ∷ [], ap (λ (z : List ℕ). z ++ w ∷ []) i.1)

  -- what is added to any chain to one number makes a chain to another
  abbrev pub Completes : ℕ → ℕ → List ℕ → Type 0
  Completes to at ids = (front : List ℕ) → ChainTo rows s at front → ChainTo rows s to (front ++ reverse ids)

  pub nothing_completes : (to : ℕ) → Completes to to []
  nothing_completes to = λ front c. rw (append-nil front) c

  pub one_more_completes : (to at u : ℕ) (ids : List ℕ) → Back rows s at u → Completes to at ids
      → Completes to u (ids ++ at ∷ [])
  one_more_completes to at u ids back completes = λ front c.
      let k = completes (front ++ at ∷ []) (after back c) in
      rw (reverse-append ids (at ∷ []), ← append_assoc front (at ∷ []) (reverse ids)) k

  first_is : (front more rest : List ℕ) → front ≡ s ∷ rest → take 1 (front ++ more) ≡ s ∷ []
  first_is front more rest e = rw e refl

  pub chain_has_ends : (backs : List (Option ℕ)) (to at count steps last : ℕ) (ids : List ℕ) (ends : ChainEnds)
      → AreBacks rows s backs → Distance rows s at (count - steps) → Completes to at ids → length ids ≡ steps
      → steps ≤ count → count - steps ≡ count - last → ends.left ≡ count - last
      → ends.ids.items ≡ reverse (ids ++ s ∷ []) → (whole : List ℕ) × ChainTo rows s to whole × AreLast last whole ends
  chain_has_ends backs to at count steps last ids ends b d completes many le same left is =
      let c = chain_exists backs b (count - steps) at d in
      let front : List ℕ = c.0 in
      let whole : List ℕ = front ++ reverse ids in
      let begins = chain_begins at front c.1 in
      let one = length-append front (reverse ids) in
      let two = length-reverse ids in
      let size : length whole ≡ count + 1 = omega (arith, one, two, c.2, many, le) in
      let seam : length whole - (last + 1) + 1 ≡ length front = omega (arith, size, c.2, same) in (
        whole,
        completes front c.1,
        record {
          left = omega (arith, left, size);
          is = is ∙ (reverse-append ids (s ∷ []) ∙ sym (rw (
            seam,
            drop-append_seam front (reverse ids),
            first_is front (reverse ids) begins.0 begins.1,
          ) refl));
        },
      )

-- as many are left after the last steps as after at most so many
pub rest_is_same : (count last steps : ℕ) → steps ≡ min count last → count - steps ≡ count - last
rest_is_same count last steps is = ⊎_elim
    (λ lt. (let e : min count last ≡ count = min-eq_left (omega (arith, lt)) in omega (arith, e, is, lt)))
    (λ le. (let e : min count last ≡ last = min-eq_right le in omega (arith, e, is)))
    (cases_lt count last)
