-- The chain that is returned.
-- Serves: one_chain, chain_to
use Rattle.std.proofs.Common.{◌≡◌, ℕ, suc, ◌+◌, List, [], ◌∷◌, ◌++◌, length, reverse, Option, Some}
use Rattle.std.proofs.Common.{None, refl, sym, subst, ap, arith, ◌∙◌, length-append, append_assoc}
use Rattle.std.proofs.lemmas.List.{append-nil, reverse-append}
use Rattle.fixpoint.specs.Way.{At}
use Rattle.fixpoint.specs.Distances.{Steps, no_step, Distance}
use Rattle.fixpoint.specs.Fills.{Down, top, below}
use Rattle.fixpoint.specs.ShortChains.{AreBacks, Back, ChainTo, at_start, after, IsChainIfReached}
use Rattle.fixpoint.proofs.DistanceLemmas.{distance_is_one, last_is_nearer, last_step, no_step_stays}
use Rattle.fixpoint.proofs.DistanceLemmas.{start_is_near}

module _ (rows : List (List ℕ)) (s : ℕ) where
  none_before_start : (u : ℕ) → Back rows s s u → ⊥
  none_before_start u b = let l = b.nearer.far.least 0 no_step in omega (arith, l)

  back_is_one : (v u w : ℕ) → Back rows s v u → Back rows s v w → u ≡ w
  back_is_one v u w a b = let f = a.first w b.nearer in let g = b.first u a.nearer in omega (arith, f, g)

  chains_are_one : (v w : ℕ) (a b : List ℕ) → v ≡ w → ChainTo rows s v a → ChainTo rows s w b → a ≡ b
  chains_are_one v w a b is at_start at_start = refl
  chains_are_one v w a b is at_start (after {u = u} x c) =
      absurd (none_before_start u (subst (λ z. Back rows s z u) (sym is) x))
  chains_are_one v w a b is (after {u = u} x c) at_start =
      absurd (none_before_start u (subst (λ z. Back rows s z u) is x))
  chains_are_one v w a b is (after {u = u} {ns = ns} x c) (after {u = t} {ns = ms} y d) =
      let e : ns ≡ ms = chains_are_one u t ns ms (back_is_one v u t x (subst (λ z. Back rows s z t) (sym is) y)) c d in
      ap (λ z. z ++ v ∷ []) e ∙ ap (λ z. ms ++ z ∷ []) is

  -- a chain is one of steps
  chain_leads : (v : ℕ) (a : List ℕ) → ChainTo rows s v a → (n : ℕ) × Steps rows s v n
  chain_leads v a at_start = (0, no_step)
  chain_leads v a (after x c) = (suc x.nearer.n, x.nearer.far.chain)

  pub chain_is_one : (v : ℕ) (a b : Option (List ℕ)) → IsChainIfReached rows s v a → IsChainIfReached rows s v b → a ≡ b
  chain_is_one v None None c d = refl
  chain_is_one v None (Some b) c d = let w = chain_leads v b d in absurd (c w.0 w.1)
  chain_is_one v (Some a) None c d = let w = chain_leads v a c in absurd (d w.0 w.1)
  chain_is_one v (Some a) (Some b) c d = ap Some (chains_are_one v v a b refl c d)

  pub chain_is_short : (v n : ℕ) (a : List ℕ) → ChainTo rows s v a → Distance rows s v n → length a ≡ n + 1
  chain_is_short v n a at_start d = let e = distance_is_one rows s s n 0 d (start_is_near rows s) in omega (arith, e)
  chain_is_short v n a (after {u = u} {ns = ns} x c) d =
      let e = distance_is_one rows s v n (suc x.nearer.n) d x.nearer.far in
      let l = chain_is_short u x.nearer.n ns c x.nearer.near in
      let k = length-append ns (v ∷ []) in
      omega (arith, e, l, k)

  -- a number that is not the start has one before it
  pub back_reported : (backs : List (Option ℕ)) (v n : ℕ) → AreBacks rows s backs → Distance rows s v (suc n)
      → (u : ℕ) × At backs v (Some u)
  back_reported backs v n b d = let l = last_step rows s v n d.chain in b.whole v l.0 (record {
    n = n;
    far = d;
    near = last_is_nearer rows s l.0 v n d l.1 l.2;
    step = l.2;
  })

  pub back_is_nearer : (v u n : ℕ) → Back rows s v u → Distance rows s v (suc n) → Distance rows s u n
  back_is_nearer v u n b d =
      let e = distance_is_one rows s v (suc b.nearer.n) (suc n) b.nearer.far d in
      let f : b.nearer.n ≡ n = omega (arith, e) in
      subst (λ z. Distance rows s u z) f b.nearer.near

  pub chain_on : (n at : ℕ) (ns ms : List ℕ) → Down rows s n at ns → ChainTo rows s at ms
      → ChainTo rows s n (ms ++ reverse ns)
  chain_on n at ns ms top c = rw (append-nil ms) c
  chain_on n at ns ms (below {at = v} {ns = old} down b) c =
      let k = chain_on n v old (ms ++ v ∷ []) down (after b c) in
      rw (reverse-append old (v ∷ []), ← append_assoc ms (v ∷ []) (reverse old)) k

  pub chain_whole : (n at : ℕ) (ns : List ℕ) → Down rows s n at ns → Distance rows s at 0
      → ChainTo rows s n (reverse (ns ++ at ∷ []))
  chain_whole n at ns down d =
      let e = no_step_stays rows s at d.chain in
      let c : ChainTo rows s at (at ∷ []) = subst (λ z. ChainTo rows s z (z ∷ [])) (sym e) at_start in
      rw (reverse-append ns (at ∷ [])) (chain_on n at ns (at ∷ []) down c)
