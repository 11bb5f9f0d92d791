-- What a state takes to the end.
-- Serves: first, after.
use Rattle.std.proofs.Common.{◌≡◌, ◌⊎◌, inl, inr, ℕ, zero, suc, ◌+◌, ◌≤◌, List, [], ◌∷◌, length, refl, sym}
use Rattle.std.proofs.Common.{◌∙◌}
use Rattle.std.proofs.Common.{ap, subst, arith, drop, append-nil}
use Rattle.std.specs.Prelude.{Bool, true, slice_get, Some, Contains}
use Rattle.flatgrammar.specs.Flat.{Flat, Has, Dot}
use Rattle.flatgrammar.specs.Stacks.{Accepts, AreAlike, IsStackClosure, IsNext, IsReading, reading, Led, led}
use Rattle.flatgrammar.specs.Stacks.{LedToEnd}
use Rattle.flatgrammar.specs.Stacks.{Lifted, moves, Moves, Reach, ReadBy, reads}
use Rattle.lazydfa.specs.StateSets.{StateSet}
use Rattle.rulelines.specs.Rests.{LeadToEnd, Takes}

module _ (flat : Flat) (last : Dot → Bool) where
  abbrev AreAmong : (List Dot → Type 0) → (List Dot → Type 0) → Type 0
  AreAmong f g = (s : List Dot) → f s → g s

  led_among : {f g : List Dot → Type 0} → AreAmong f g → AreAmong (Led flat last f) (Led flat last g)
  led_among among s (led h) = led (among s h)
  led_among among s (moves h m) = moves (led_among among _ h) m

  read_among : {f g : List Dot → Type 0} (c : ℕ) → AreAmong f g
      → AreAmong (ReadBy flat last f c) (ReadBy flat last g c)
  read_among c among s (reads h rd lies) = reads (among _ h) rd lies

  ends_among : {f g : List Dot → Type 0} → AreAmong f g → LedToEnd flat last f → LedToEnd flat last g
  ends_among among e = record { position = e.position; led_to = led_among among _ e.led_to; done = e.done }

  lead_among : (w : List ℕ) (f g : List Dot → Type 0) → AreAmong f g → LeadToEnd flat last f w
      → LeadToEnd flat last g w
  lead_among [] f g among h = ends_among among h
  lead_among (c ∷ w) f g among h =
      lead_among w (ReadBy flat last (Led flat last f) c) (ReadBy flat last (Led flat last g) c)
      (read_among c (led_among among)) h

  -- a letter that is in the same sets does so too
  read_alike : {f : List Dot → Type 0} {c d : ℕ} → AreAlike flat c d
      → AreAmong (ReadBy flat last f c) (ReadBy flat last f d)
  read_alike alike s (reads {q = q} {r = r} {set = set} h rd lies) = reads h rd ((alike q r set rd).0 lies)

  back_alike : {c d : ℕ} → AreAlike flat c d → AreAlike flat d c
  back_alike alike q r set rd = ((alike q r set rd).1, (alike q r set rd).0)

  pub takes_alike : {c d : ℕ} → AreAlike flat c d → (s : StateSet) (w : List ℕ) → Takes flat last s (c ∷ w)
      → Takes flat last s (d ∷ w)
  takes_alike {c} {d} alike s w h =
      lead_among w (ReadBy flat last (Contains s.stacks) c) (ReadBy flat last (Contains s.stacks) d)
      (read_alike alike) h

  pub next_alike : {c d : ℕ} → AreAlike flat c d → (tops next : List Dot → Type 0) (ended : Bool)
      → IsNext flat last tops d next ended → IsNext flat last tops c next ended
  next_alike alike tops next ended n = record {
    tops_are = λ top. (
      λ h. (let g = (n.tops_are top).0 h in (g.0, led_among (read_alike (back_alike alike)) top g.1)),
      λ h. (n.tops_are top).1 (h.0, led_among (read_alike alike) top h.1),
    );
    ended_is = (
      λ e. ends_among (read_alike (back_alike alike)) (n.ended_is.0 e),
      λ h. n.ended_is.1 (ends_among (read_alike alike) h),
    );
  }

  -- what a letter leads to takes the rest
  module _ (s t : StateSet) (c : ℕ) (next : IsNext flat last (Contains s.stacks) c (Contains t.stacks) t.ended) where
    into_next : (d : ℕ) → AreAmong (ReadBy flat last (Led flat last (ReadBy flat last (Contains s.stacks) c)) d)
        (ReadBy flat last (Contains t.stacks) d)
    into_next d u (reads {q = q} {below = below} h rd lies) =
        reads ((next.tops_are (q ∷ below)).1 (reading rd, h)) rd lies

    out_of_next : (d : ℕ) → AreAmong (ReadBy flat last (Contains t.stacks) d)
        (ReadBy flat last (Led flat last (ReadBy flat last (Contains s.stacks) c)) d)
    out_of_next d u (reads {q = q} {below = below} h rd lies) = reads ((next.tops_are (q ∷ below)).0 h).1 rd lies

    pub takes_after : (w : List ℕ) → Takes flat last s (c ∷ w) → Takes flat last t w
    takes_after [] h = next.ended_is.1 h
    takes_after (d ∷ w) h =
        lead_among w (ReadBy flat last (Led flat last (ReadBy flat last (Contains s.stacks) c)) d)
        (ReadBy flat last (Contains t.stacks) d) (into_next d) h

    pub takes_before : (w : List ℕ) → Takes flat last t w → Takes flat last s (c ∷ w)
    takes_before [] h = next.ended_is.0 h
    takes_before (d ∷ w) h =
        lead_among w (ReadBy flat last (Contains t.stacks) d)
        (ReadBy flat last (Led flat last (ReadBy flat last (Contains s.stacks) c)) d) (out_of_next d) h

  -- the start state takes what the whole accepts
  all_dropped : (x : List ℕ) (j : ℕ) → j ≤ length x → drop j x ≡ [] → j ≡ length x
  all_dropped [] zero le same = refl
  all_dropped (c ∷ x) zero le same = cc same
  all_dropped [] (suc j) le same = absurd (omega (arith, le))
  all_dropped (c ∷ x) (suc j) le same = ap suc (all_dropped x j (omega (arith, le)) same)

  next_dropped : (x : List ℕ) (j c : ℕ) (w : List ℕ) → drop j x ≡ c ∷ w → (slice_get x j ≡ Some c)
      × (drop (suc j) x ≡ w) × (suc j ≤ length x)
  next_dropped [] zero c w same = cc same
  next_dropped [] (suc j) c w same = cc same
  next_dropped (b ∷ x) zero c w same = (cc same, cc same, omega arith)
  next_dropped (b ∷ x) (suc j) c w same = let g = next_dropped x j c w same in (g.0, g.1, omega (arith, g.2))

  module _ (x : List ℕ) where
    abbrev AreReached : ℕ → (List Dot → Type 0) → Type 0
    AreReached j f = AreAmong f (Reach flat last x j)

    abbrev AreLed : ℕ → (List Dot → Type 0) → Type 0
    AreLed j f = AreAmong (Reach flat last x j) (Led flat last f)

    led_reached : (j : ℕ) (f : List Dot → Type 0) → AreReached j f → AreReached j (Led flat last f)
    led_reached j f among s (led h) = among s h
    led_reached j f among s (moves h m) = Reach.moved (led_reached j f among _ h) m

    pub read_reached : (j c : ℕ) (f : List Dot → Type 0) → slice_get x j ≡ Some c → AreReached j f
        → AreReached (suc j) (ReadBy flat last f c)
    read_reached j c f is among s (reads {r = r} {below = below} h rd lies) =
        let next : j + 1 ≡ suc j = omega arith in
        subst (λ v. Reach flat last x v (r ∷ below)) next (Reach.has_read (among _ h) rd is lies)

    pub accepts_led : (w : List ℕ) (j : ℕ) (f : List Dot → Type 0) → j ≤ length x → drop j x ≡ w → AreReached j f
        → LeadToEnd flat last f w → Accepts flat last x (length x)
    accepts_led [] j f le same among e = record {
      position = e.position;
      reached = subst (λ v. Reach flat last x v (e.position ∷ [])) (all_dropped x j le same)
          (led_reached j f among _ e.led_to);
      done = e.done;
    }
    accepts_led (c ∷ w) j f le same among h =
        let g = next_dropped x j c w same in
        accepts_led w (suc j) (ReadBy flat last (Led flat last f) c) g.2 g.1
        (read_reached j c (Led flat last f) g.0 (led_reached j f among)) h

    pub led_read : (j c : ℕ) (f : List Dot → Type 0) → slice_get x j ≡ Some c
        → ((q : Dot) (below : List Dot) → IsReading flat (q ∷ below) → Reach flat last x j (q ∷ below)
        → f (q ∷ below))
        → (m : ℕ) → m ≡ suc j → (s : List Dot) → Reach flat last x m s → Led flat last (ReadBy flat last f c) s
    led_read j c f is among m same s (Reach.begins st) = absurd (omega (arith, same))
    led_read j c f is among m same s (Reach.moved h mv) = moves (led_read j c f is among m same _ h) mv
    led_read j c f is among m same s (Reach.has_read {j = i} {c = d} {q = q} {set = set} {below = below} h rd at lies) =
        let here : i ≡ j = omega (arith, same) in
        let both : Some d ≡ Some c = sym at ∙ (ap (λ v. slice_get x v) here ∙ is) in
        let same_letter : d ≡ c = cc both in
        led (reads (among q below (reading rd) (subst (λ v. Reach flat last x v (q ∷ below)) here h)) rd
        (subst (λ v. Has set v) same_letter lies))

    pub led_accepts : (w : List ℕ) (j : ℕ) (f : List Dot → Type 0) → j ≤ length x → drop j x ≡ w → AreLed j f
        → Accepts flat last x (length x) → LeadToEnd flat last f w
    led_accepts [] j f le same among a = record {
      position = a.position;
      led_to = among _ (subst (λ v. Reach flat last x v (a.position ∷ [])) (sym (all_dropped x j le same)) a.reached);
      done = a.done;
    }
    led_accepts (c ∷ w) j f le same among a =
        let g = next_dropped x j c w same in
        led_accepts w (suc j) (ReadBy flat last (Led flat last f) c) g.2 g.1
        (λ s h. led_read j c (Led flat last f) g.0 (λ q below r r_h. among (q ∷ below) r_h) (suc j) refl s h) a

  pub no_led_none : (s : List Dot) → Led flat last (λ v. [] ≡ v) s → (s ≡ [] → ⊥) → ⊥
  no_led_none s (led same) some = some (sym same)
  no_led_none s (moves h m) some = no_led_none _ h (λ same. from_none m same)
    where
      from_none : {a b : List Dot} → Moves flat last a b → a ≡ [] → ⊥
      from_none (Moves.call c st l) same = cc same
      from_none (Moves.tail_call c st l) same = cc same
      from_none (Moves.return d) same = cc same

  module _ (s : StateSet) (closure : (x : List ℕ) → IsStackClosure flat last x 0 (Contains s.stacks) s.ended []) where
    start_reached : (x : List ℕ) (top : List Dot) → Contains s.stacks top → Reach flat last x 0 top
    start_reached x top h = ((closure x).reading top ((closure x).all_read top h)).1
        (inl (record { top = top; is = h; stack_is = sym (append-nil top) }))

    reached_start : (x : List ℕ) (q : Dot) (below : List Dot) → IsReading flat (q ∷ below)
        → Reach flat last x 0 (q ∷ below) → Contains s.stacks (q ∷ below)
    reached_start x q below r h = by (((closure x).reading (q ∷ below) r).0 h)
      where
        by : Lifted (Contains s.stacks) [] (q ∷ below) ⊎ ((s.ended ≡ true) × Led flat last (λ v. [] ≡ v) (q ∷ below))
            → Contains s.stacks (q ∷ below)
        by (inl l) = subst (λ v. Contains s.stacks v) (sym (l.stack_is ∙ append-nil l.top)) l.is
        by (inr g) = absurd (no_led_none (q ∷ below) g.1 (λ same. cc same))

    pub takes_accepted : (x : List ℕ) → Takes flat last s x → Accepts flat last x (length x)
    takes_accepted [] h = (closure []).accepts.1 (h, inl refl)
    takes_accepted (c ∷ w) h =
        accepts_led (c ∷ w) w 1 (ReadBy flat last (Contains s.stacks) c) (omega arith) refl
        (read_reached (c ∷ w) 0 c (Contains s.stacks) refl (start_reached (c ∷ w))) h

    pub accepted_takes : (x : List ℕ) → Accepts flat last x (length x) → Takes flat last s x
    accepted_takes [] a = ((closure []).accepts.0 a).0
    accepted_takes (c ∷ w) a =
        led_accepts (c ∷ w) w 1 (ReadBy flat last (Contains s.stacks) c) (omega arith) refl
        (led_read (c ∷ w) 0 c (Contains s.stacks) refl (reached_start (c ∷ w)) 1 refl) a
