-- Chains of so many steps, and distances.
-- Serves: chains_from, chain_to, one_chain
use Rattle.std.proofs.Common.{◌≡◌, ℕ, suc, List, refl, subst, arith}
use Rattle.std.proofs.Common.{Option, Some}
use Rattle.fixpoint.specs.StepRows.{Step}
use Rattle.fixpoint.specs.Way.{At}
use Rattle.fixpoint.specs.Distances.{Steps, no_step, one_more, Distance, AreDistances}

module _ (rows : List (List ℕ)) (s : ℕ) where
  pub distance_is_one : (v n m : ℕ) → Distance rows s v n → Distance rows s v m → n ≡ m
  distance_is_one v n m d e = let a = d.least m e.chain in let b = e.least n d.chain in omega (arith, a, b)

  pub start_is_near : Distance rows s s 0
  start_is_near = record { chain = no_step; least = λ m c. omega arith }

  pub no_step_stays : (v : ℕ) → Steps rows s v 0 → v ≡ s
  no_step_stays v no_step = refl

  -- of a number that is not the start the last step
  pub last_step : (v n : ℕ) → Steps rows s v (suc n) → (u : ℕ) × Steps rows s u n × Step rows u v
  last_step v n (one_more {u = u} c step) = (u, c, step)

  -- what the last step of a shortest chain comes from is nearer
  pub last_is_nearer : (u v n : ℕ) → Distance rows s v (suc n) → Steps rows s u n → Step rows u v → Distance rows s u n
  last_is_nearer u v n d c step = record {
    chain = c;
    least = λ m k. let l = d.least (suc m) (one_more k step) in omega (arith, l);
  }

  -- a distance is recorded
  pub distance_reported : (far : List (Option ℕ)) (v n : ℕ) → AreDistances rows s far → Distance rows s v n
      → At far v (Some n)
  distance_reported far v n a d =
      let w = a.whole v n d.chain in
      subst (λ m. At far v (Some m)) (distance_is_one v w.0 n (a.sound v w.0 w.1) d) w.1
