-- Stacks with more below them.
-- Serves: a_letter_leads_on, suffixes_are_moved, judge.
use Rattle.std.proofs.Common.{◌≡◌, List, [], ◌∷◌, ◌++◌, refl, sym, ◌∙◌, subst, ◌↔◌, ◌⊎◌, inl, inr}
use Rattle.std.specs.Prelude.{Bool}
use Rattle.flatgrammar.specs.Flat.{Flat, Dot, Calls}
use Rattle.flatgrammar.specs.Stacks as st
use Rattle.flatgrammar.specs.Stacks.{IsDoneAt, Moves, call, tail_call, Led, led, moves, LedToEnd, Lifted, Empties}

module _ (flat : Flat) (last : Dot → Bool) where
  lift_move : {a b : List Dot} (below : List Dot) → Moves flat last a b → Moves flat last (a ++ below) (b ++ below)
  lift_move below (call c s l) = call c s l
  lift_move below (tail_call c s l) = tail_call c s l
  lift_move below (st.return d) = st.return d

  from_nothing : {a b : List Dot} → Moves flat last a b → a ≡ [] → ⊥
  from_nothing (call c s l) same = cc same
  from_nothing (tail_call c s l) same = cc same
  from_nothing (st.return d) same = cc same

  to_nothing : {a b : List Dot} → Moves flat last a b → b ≡ [] → ⊥
  to_nothing (call c s l) same = cc same
  to_nothing (tail_call c s l) same = cc same
  to_nothing (st.return d) same = cc same

  pub rests_empty : {a : List Dot} → Led flat last (λ v. [] ≡ v) a → a ≡ []
  rests_empty (led h) = sym h
  rests_empty (moves h m) = absurd (from_nothing m (rests_empty h))

  pub led_some : {from : List Dot → Type 0} {a : List Dot} → ((b : List Dot) → from b → b ≡ [] → ⊥)
      → Led flat last from a → a ≡ [] → ⊥
  led_some {a = a} some (led h) same = some a h same
  led_some some (moves h m) same = to_nothing m same

  pub led_by : {from to : List Dot → Type 0} {a : List Dot} → ((b : List Dot) → from b → Led flat last to b)
      → Led flat last from a → Led flat last to a
  led_by {a = a} on (led h) = on a h
  led_by on (moves h m) = moves (led_by on h) m

  module _ (tops stacks : List Dot → Type 0) (below : List Dot) (some : (b : List Dot) → tops b → b ≡ [] → ⊥)
    where
      abbrev pub IsOver : List Dot → Type 0
      IsOver a = Lifted (Led flat last tops) below a ⊎ (LedToEnd flat last tops × Led flat last (λ v. below ≡ v) a)

      split : {a b : List Dot} (p : Dot) (top : List Dot) → Led flat last tops (p ∷ top) → Moves flat last a b
          → a ≡ p ∷ (top ++ below) → IsOver b
      split p top h (call {s = s} {p = n} {q = q} {r = r} c st l) same =
          let one : q ≡ p = cc same in
          inl (record {
            top = n ∷ r ∷ top;
            is = moves h (call (subst (λ v. Calls flat v s r) one c) st l);
            stack_is = cc same;
          })
      split p top h (tail_call {s = s} {p = n} {q = q} {r = r} c st l) same =
          let one : q ≡ p = cc same in
          inl (record {
            top = n ∷ top;
            is = moves h (tail_call (subst (λ v. Calls flat v s r) one c) st l);
            stack_is = cc same;
          })
      split p [] h (st.return {p = q} {r = r} {below = rest} d) same =
          let one : q ≡ p = cc same in
          inr (record { position = p; led_to = h; done = subst (λ v. IsDoneAt flat v) one d }, led (cc same))
      split p (t ∷ top) h (st.return {p = q} {r = r} {below = rest} d) same =
          let one : q ≡ p = cc same in
          inl (record {
            top = t ∷ top;
            is = moves h (st.return (subst (λ v. IsDoneAt flat v) one d));
            stack_is = cc same;
          })

      over_moves : {a b : List Dot} → IsOver a → Moves flat last a b → IsOver b
      over_moves {a} {b} (inl g) m = by g.top g.is g.stack_is
        where
          by : (top : List Dot) → Led flat last tops top → a ≡ top ++ below → IsOver b
          by [] h same = absurd (led_some some h refl)
          by (p ∷ top) h same = split p top h m same
      over_moves (inr g) m = inr (g.0, moves g.1 m)

      pub over : ((a : List Dot) → stacks a → Lifted tops below a) → {a : List Dot} → Led flat last stacks a
          → IsOver a
      over on {a} (led h) =
          let g = on a h in inl (record { top = g.top; is = led g.is; stack_is = g.stack_is })
      over on (moves h m) = over_moves (over on h) m

      module _ (back : (a : List Dot) → tops a → stacks (a ++ below)) where
        all_lifts : {a : List Dot} → Led flat last tops a → Led flat last stacks (a ++ below)
        all_lifts {a} (led h) = led (back a h)
        all_lifts (moves h m) = moves (all_lifts h) (lift_move below m)

        pub from_over : {a : List Dot} → (a ≡ [] → ⊥) → IsOver a → Led flat last stacks a
        from_over {a} full (inl g) = subst (λ v. Led flat last stacks v) (sym g.stack_is) (all_lifts g.is)
        from_over {a} full (inr g) = by below refl
          where
            by : (rest : List Dot) → below ≡ rest → Led flat last stacks a
            by [] same = absurd (full (rests_empty (subst (λ w. Led flat last (λ v. w ≡ v) a) same g.1)))
            by (r ∷ rest) same = led_by
                (λ b h. subst (λ v. Led flat last stacks v) (sym same ∙ h)
                (moves (subst (λ v. Led flat last stacks (g.0.position ∷ v)) same (all_lifts g.0.led_to))
                (st.return g.0.done)))
                g.1

        pub ends_over : ((a : List Dot) → stacks a → Lifted tops below a) → LedToEnd flat last stacks
            ↔ (LedToEnd flat last tops × Empties flat last below)
        ends_over on = (there, λ h. again h.0 h.1)
          where
            alone : {p : Dot} (top : List Dot) → Led flat last tops top → IsDoneAt flat p → p ∷ [] ≡ top ++ below
                → LedToEnd flat last tops × Empties flat last below
            alone [] h d same = absurd (led_some some h refl)
            alone {p} (t ∷ []) h d same =
                let one : p ≡ t = cc same in
                (record { position = t; led_to = h; done = subst (λ v. IsDoneAt flat v) one d }, inl (cc same))
            alone (t ∷ u ∷ top) h d same = absurd (cc same)

            by : (p : Dot) → IsDoneAt flat p → IsOver (p ∷ []) → LedToEnd flat last tops × Empties flat last below
            by p d (inl g) = alone g.top g.is d g.stack_is
            by p d (inr g) = (g.0, inr (record { position = p; led_to = g.1; done = d }))

            there : LedToEnd flat last stacks → LedToEnd flat last tops × Empties flat last below
            there h = by h.position h.done (over on h.led_to)

            again : LedToEnd flat last tops → Empties flat last below → LedToEnd flat last stacks
            again h (inl none) = record {
              position = h.position;
              led_to = from_over (λ same. cc same) (inl (record {
                top = h.position ∷ [];
                is = h.led_to;
                stack_is = cc none;
              }));
              done = h.done;
            }
            again h (inr e) = record {
              position = e.position;
              led_to = from_over (λ same. cc same) (inr (h, e.led_to));
              done = e.done;
            }
