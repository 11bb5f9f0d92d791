-- What a state says of the prefixes that lead to it.
-- Serves: next_prefix
use Rattle.std.proofs.Common.{◌≡◌, ◌↔◌, ◌⊎◌, inl, inr, ℕ, suc, ◌+◌, ◌≤◌, List, [], ◌∷◌, ◌++◌, length, refl}
use Rattle.std.proofs.Common.{sym, ◌∙◌, ap, subst, arith, append_assoc, append-nil, drop, length-append}
use Rattle.std.specs.Prelude.{Bool, true, slice_get, Some, Contains}
use Rattle.flatgrammar.specs.Flat.{Flat, Dot}
use Rattle.flatgrammar.specs.Stacks.{Accepts, AreAlike, IsStackClosure, IsNext, IsReading, Led, led, Lifted}
use Rattle.flatgrammar.specs.Stacks.{moves, Reach, ReadBy}
use Rattle.flatgrammar.proofs.StackClosureLemmas.{nothing_below, taken_by_tops}
use Rattle.lazydfa.specs.StateSets.{StateSet}
use Rattle.rulelines.specs.MissSearch.{IsLive}
use Rattle.rulelines.specs.Rests.{Takes}
use Rattle.rulelines.proofs.StatePairsLemmas.{closure_on}
use Rattle.rulelines.proofs.TakesLemmas.{accepts_led, led_accepts, led_read, no_led_none, read_reached}

pub at_seam : (u : List ℕ) (c : ℕ) (rest : List ℕ) → slice_get (u ++ c ∷ rest) (length u) ≡ Some c
at_seam [] c rest = refl
at_seam (b ∷ u) c rest = at_seam u c rest

drop_seam : (u : List ℕ) (c : ℕ) (w : List ℕ) → drop (suc (length u)) (u ++ c ∷ w) ≡ w
drop_seam [] c w = refl
drop_seam (b ∷ u) c w = drop_seam u c w

seam_within : (u : List ℕ) (c : ℕ) (w : List ℕ) → suc (length u) ≤ length (u ++ c ∷ w)
seam_within u c w = omega (arith, length-append u (c ∷ w))

pub self_alike : (flat : Flat) (c : ℕ) → AreAlike flat c c
self_alike flat c q r set rd = (λ h. h, λ h. h)

pub none_contained : {A : Type 0} (xs : List A) (x : A) → xs ≡ [] → Contains xs x → ⊥
none_contained xs x none h = let lt = h.1 in let e = ap length none in omega (arith, lt, e)

module _ (flat : Flat) (last : Dot → Bool) where
  -- the state that the symbols of a prefix lead to, whatever comes after it
  abbrev pub LeadTo : List ℕ → StateSet → Type 0
  LeadTo u s = (rest : List ℕ) → IsStackClosure flat last (u ++ rest) (length u) (Contains s.stacks) s.ended []

  abbrev pub Next : StateSet → ℕ → StateSet → Type 0
  Next s c t = IsNext flat last (Contains s.stacks) c (Contains t.stacks) t.ended

  -- where moves lead, they begin
  moves_begin : {f : List Dot → Type 0} (t : List Dot) → Led flat last f t → (s : List Dot) × f s
  moves_begin t (led h) = (t, h)
  moves_begin t (moves h m) = moves_begin _ h

  module _ (u : List ℕ) (s : StateSet) (leads : LeadTo u s) where
    pub lead_next : (c d : ℕ) → AreAlike flat c d → (t : StateSet) → Next s d t → LeadTo (u ++ c ∷ []) t
    lead_next c d alike t next rest =
        subst (λ v. IsStackClosure flat last v (length (u ++ c ∷ [])) (Contains t.stacks) t.ended [])
        (sym (append_assoc u (c ∷ []) rest))
        (subst (λ v. IsStackClosure flat last (u ++ c ∷ rest) v (Contains t.stacks) t.ended [])
        (sym (length-append u (c ∷ [])))
        (closure_on flat last (u ++ c ∷ rest) (length u) c d (at_seam u c rest) alike s.stacks t.stacks s.ended t.ended
        (leads (c ∷ rest)) next))

    -- a symbol is read where it leads to some stack
    symbol_taken : (c : ℕ) (rest : List ℕ) → ((a : List Dot) × Reach flat last (u ++ c ∷ rest) (length u + 1) a)
        ↔ ((a : List Dot) × ReadBy flat last (Contains s.stacks) c a)
    symbol_taken c rest =
        taken_by_tops flat last (u ++ c ∷ rest) (length u) c c (at_seam u c rest) (self_alike flat c)
        (Contains s.stacks)
        [] (nothing_below flat last (u ++ c ∷ rest) (length u) (Contains s.stacks) s.ended (leads (c ∷ rest)))

    pub read_there : (c : ℕ) (rest : List ℕ) → (a : List Dot) × Reach flat last (u ++ c ∷ rest) (length u + 1) a
        → (a : List Dot) × ReadBy flat last (Contains s.stacks) c a
    read_there c rest h = (symbol_taken c rest).0 h

    pub none_there : (c : ℕ) (rest : List ℕ) → s.stacks ≡ []
        → (a : List Dot) × Reach flat last (u ++ c ∷ rest) (length u + 1) a → ⊥
    none_there c rest none h = by (read_there c rest h)
      where
        by : (a : List Dot) × ReadBy flat last (Contains s.stacks) c a → ⊥
        by (_, ReadBy.reads {q = q} {below = below} h rd lies) = none_contained s.stacks (q ∷ below) none h

    -- a live state is reached by some stack
    pub live_reached : (c : ℕ) (rest : List ℕ) (t : StateSet) → Next s c t → IsLive t
        → (a : List Dot) × Reach flat last (u ++ c ∷ rest) (length u + 1) a
    live_reached c rest t next live = (symbol_taken c rest).1 (by live)
      where
        some : (xs : List (List Dot)) → (xs ≡ [] → ⊥) → (top : List Dot) × Contains xs top
        some [] none = absurd (none refl)
        some (x ∷ xs) none = (x, (0, omega arith, refl))

        by : IsLive t → (a : List Dot) × ReadBy flat last (Contains s.stacks) c a
        by (inl full) =
            let g = some t.stacks full in
            moves_begin g.0 ((next.tops_are g.0).0 g.1).1
        by (inr ended) = let e = next.ended_is.0 ended in moves_begin (e.position ∷ []) e.led_to

    -- what the state takes is accepted after the prefix
    module _ (r : List ℕ) where
      abbrev Whole : List ℕ
      Whole = u ++ r

      top_reached : (top : List Dot) → Contains s.stacks top → Reach flat last Whole (length u) top
      top_reached top h = ((leads r).reading top ((leads r).all_read top h)).1
          (inl (record { top = top; is = h; stack_is = sym (append-nil top) }))

      reached_top : (q : Dot) (below : List Dot) → IsReading flat (q ∷ below)
          → Reach flat last Whole (length u) (q ∷ below) → Contains s.stacks (q ∷ below)
      reached_top q below rd h = by (((leads r).reading (q ∷ below) rd).0 h)
        where
          by : Lifted (Contains s.stacks) [] (q ∷ below) ⊎ ((s.ended ≡ true) × Led flat last (λ v. [] ≡ v) (q ∷ below))
              → Contains s.stacks (q ∷ below)
          by (inl l) = subst (λ v. Contains s.stacks v) (sym (l.stack_is ∙ append-nil l.top)) l.is
          by (inr g) = absurd (no_led_none flat last (q ∷ below) g.1 (λ same. cc same))

    pub ended_accepts : s.ended ≡ true → Accepts flat last u (length u)
    ended_accepts ended = subst (λ v. Accepts flat last v (length u)) (append-nil u)
        ((leads []).accepts.1 (ended, inl refl))

    pub accepts_ended : Accepts flat last u (length u) → s.ended ≡ true
    accepts_ended a = ((leads []).accepts.0 (subst (λ v. Accepts flat last v (length u)) (sym (append-nil u)) a)).0

    pub takes_accepts : (r : List ℕ) → Takes flat last s r → Accepts flat last (u ++ r) (length (u ++ r))
    takes_accepts [] h = subst (λ v. Accepts flat last v (length v)) (sym (append-nil u)) (ended_accepts h)
    takes_accepts (c ∷ w) h =
        accepts_led flat last (u ++ c ∷ w) w (suc (length u)) (ReadBy flat last (Contains s.stacks) c)
        (seam_within u c w) (drop_seam u c w)
        (read_reached flat last (u ++ c ∷ w) (length u) c (Contains s.stacks) (at_seam u c w) (top_reached (c ∷ w))) h

    pub accepts_takes : (r : List ℕ) → Accepts flat last (u ++ r) (length (u ++ r)) → Takes flat last s r
    accepts_takes [] a = accepts_ended (subst (λ v. Accepts flat last v (length v)) (append-nil u) a)
    accepts_takes (c ∷ w) a =
        led_accepts flat last (u ++ c ∷ w) w (suc (length u)) (ReadBy flat last (Contains s.stacks) c)
        (seam_within u c w) (drop_seam u c w)
        (led_read flat last (u ++ c ∷ w) (length u) c (Contains s.stacks) (at_seam u c w) (reached_top (c ∷ w))
        (suc (length u)) refl) a
