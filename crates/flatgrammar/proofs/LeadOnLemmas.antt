-- What a letter leads to.
-- Serves: a_letter_leads_on, judge.
use Rattle.std.proofs.Common.{◌≡◌, ℕ, ◌+◌, List, ◌∷◌, refl, subst, arith, ◌↔◌}
use Rattle.std.specs.Prelude.{slice_get, Bool, Some}
use Rattle.flatgrammar.specs.Flat.{Flat, Dot, Has}
use Rattle.flatgrammar.specs.Stacks.{Reach, Led, ReadBy, After, AreAlike}

module _ (flat : Flat) (last : Dot → Bool) (x : List ℕ) (j c d : ℕ) (is : slice_get x j ≡ Some c)
    (alike : AreAlike flat c d) where
  came_from : {k : ℕ} {a : List Dot} → Reach flat last x k a → k ≡ j + 1 → After flat last (Reach flat last x j) d a
  came_from (Reach.begins st) same = absurd (omega (arith, same))
  came_from (Reach.moved h m) same = Led.moves (came_from h same) m
  came_from (Reach.has_read {j = i} {c = b} {q = q} {r = r} {set = set} {below = below} h rd here lies) same =
      let at_j : i ≡ j = omega (arith, same) in
      let letter : b ≡ c = cc (here, is, at_j) in
      Led.led (ReadBy.reads (subst (λ v. Reach flat last x v (q ∷ below)) at_j h) rd
      ((alike q r set rd).0 (subst (λ v. Has set v) letter lies)))

  goes_on : {a : List Dot} → After flat last (Reach flat last x j) d a → Reach flat last x (j + 1) a
  goes_on (Led.led (ReadBy.reads {q = q} {r = r} {set = set} h rd lies)) = Reach.has_read h rd is
      ((alike q r set rd).1 lies)
  goes_on (Led.moves h m) = Reach.moved (goes_on h) m

  pub leads_on : (a : List Dot) → Reach flat last x (j + 1) a ↔ After flat last (Reach flat last x j) d a
  leads_on a = (λ h. came_from h refl, λ h. goes_on h)
