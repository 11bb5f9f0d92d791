-- A walk from stacks that dominate others has the same parts as one from these.
-- Serves: expected.
use Rattle.std.proofs.Common.{◌≡◌, ◌⊎◌, inl, inr, ℕ, List, [], ◌∷◌, refl, sym, ◌∙◌, ap, subst}
use Rattle.std.specs.Prelude.{Bool, true, false}
use Rattle.flatgrammar.specs.Flat.{Flat, Dot, Set, Starts, Reads, Calls}
use Rattle.flatgrammar.specs.OldItems.{IsNameNode, Walks, begun, returns, enters, enters_last, passes}
use Rattle.flatgrammar.specs.Stacks.{IsDoneAt, IsReading, Lifted, MarksLast, Reach, ReadBy, reading, reads}
use Rattle.lazydfa.specs.Domination.{Dominates, IsAhead, IsFewer, IsPlainCover}
use Rattle.lazydfa.proofs.DominatesLemmas.{NextAhead, ahead_call, ahead_done, ahead_of_reader, dominates_on, fewer_done}
use Rattle.lazydfa.proofs.DominatesLemmas.{fewer_not_last, same_reader}

module _ (flat : Flat) (last : Dot → Bool) (marks : MarksLast flat last) where
  -- more stacks have longer walks
  pub walks_more : {from more : List Dot → Type 0} → ((a : List Dot) → from a → more a) → {a : List Dot}
      → Walks flat last from a → Walks flat last more a
  walks_more to (begun {a = a} h) = begun (to a h)
  walks_more to (returns w d) = returns (walks_more to w) d
  walks_more to (enters w c other st is) = enters (walks_more to w) c other st is
  walks_more to (enters_last w c other st is) = enters_last (walks_more to w) c other st is
  walks_more to (passes w c name null) = passes (walks_more to w) c name null

  module _ (before cover : List Dot → Type 0)
      (on : (a : List Dot) → before a → (b : List Dot) × cover b × Dominates flat b a) where
    abbrev Over : List Dot → Type 0
    Over a = (b : List Dot) × Walks flat last cover b × Dominates flat b a

    -- a walk leads to one whose top is ahead
    record IsAheadOf (q : Dot) (t : List Dot) : Type 0 where
      top : Dot
      below : List Dot
      walked : Walks flat last cover (top ∷ below)
      ahead : IsAhead flat top q
      dominates : Dominates flat below t

    walk_ahead : (s : List Dot) (q : Dot) (t : List Dot) → Walks flat last cover s → Dominates flat s (q ∷ t)
        → IsAheadOf q t
    walk_ahead [] q t w h = absurd (cc h)
    walk_ahead (p ∷ s) q t w (inl d) = by s w d.0 d.1 (λ v. walk_ahead s q t v d.1)
      where
        by : (s : List Dot) → Walks flat last cover (p ∷ s) → IsDoneAt flat p → Dominates flat s (q ∷ t)
            → (Walks flat last cover s → IsAheadOf q t) → IsAheadOf q t
        by [] w d h on = absurd (cc h)
        by (r ∷ s) w d h on = on (returns w d)
    walk_ahead (p ∷ s) q t w (inr h) =
        let both : q ∷ t ≡ h.0 ∷ h.1 = h.2 in
        let one : h.0 ≡ q = cc both in
        let rest : h.1 ≡ t = cc both in
        record {
          top = p;
          below = s;
          walked = w;
          ahead = subst (λ v. IsAhead flat p v) one h.3;
          dominates = subst (λ v. Dominates flat s v) rest h.4;
        }

    enter_over : {p q r : Dot} {n : ℕ} (below : List Dot) → IsAheadOf q below → Calls flat q n r
        → (IsNameNode flat n → ⊥) → Starts flat n p → last r ≡ false → Over (p ∷ r ∷ below)
    enter_over {p = p} {q = q} {r = r} {n = n} below g c other st not = by (ahead_call flat g.ahead c)
      where
        into : (next : Dot) → Calls flat g.top n next → last next ≡ false → IsAhead flat next r → Over (p ∷ r ∷ below)
        into next c is ahead = (
          p ∷ next ∷ g.below,
          enters g.walked c other st is,
          dominates_on flat p (next ∷ g.below) (r ∷ below) (inr (r, below, refl, ahead, g.dominates)),
        )

        fewer : (next : Dot) → Calls flat g.top n next → (f : IsFewer flat next r) → f.operand ≡ n → (b : Bool)
            → last next ≡ b → Over (p ∷ r ∷ below)
        fewer next c f same true is =
            absurd (fewer_not_last flat last marks f (subst (λ v. Starts flat v p) (sym same) st) is not)
        fewer next c f same false is = into next c is (inr f)

        by : NextAhead flat g.top n r → Over (p ∷ r ∷ below)
        by a = which a.ahead
          where
            which : (a.next ≡ r) ⊎ ((f : IsFewer flat a.next r) × (f.operand ≡ n)) → Over (p ∷ r ∷ below)
            which (inl same) = into a.next a.calling (ap (λ v. last v) same ∙ not) (inl same)
            which (inr f) = fewer a.next a.calling f.0 f.1 (last a.next) refl

    enter_last_over : {p q r : Dot} {n : ℕ} (below : List Dot) → IsAheadOf q below → Calls flat q n r
        → (IsNameNode flat n → ⊥) → Starts flat n p → last r ≡ true → Over (p ∷ below)
    enter_last_over {p = p} {q = q} {r = r} {n = n} below g c other st is = by (ahead_call flat g.ahead c)
      where
        which : (next : Dot) → Calls flat g.top n next → IsDoneAt flat next → (b : Bool) → last next ≡ b
            → Over (p ∷ below)
        which next c d true is =
            (p ∷ g.below, enters_last g.walked c other st is, dominates_on flat p g.below below g.dominates)
        which next c d false is = (
          p ∷ next ∷ g.below,
          enters g.walked c other st is,
          dominates_on flat p (next ∷ g.below) below (inl (d, g.dominates)),
        )

        done_of : (next : Dot) → (next ≡ r) ⊎ ((f : IsFewer flat next r) × (f.operand ≡ n)) → IsDoneAt flat next
        done_of next (inl same) = subst (λ v. IsDoneAt flat v) (sym same) (marks.done r is)
        done_of next (inr f) = fewer_done flat f.0

        by : NextAhead flat g.top n r → Over (p ∷ below)
        by a = which a.next a.calling (done_of a.next a.ahead) (last a.next) refl

    pass_over : {q r : Dot} {n : ℕ} (below : List Dot) (g : IsAheadOf q below) (a : NextAhead flat g.top n r)
        → Walks flat last cover (a.next ∷ g.below) → Over (r ∷ below)
    pass_over {r = r} {n = n} below g a w = (a.next ∷ g.below, w, inr (r, below, refl, ahead a.ahead, g.dominates))
      where
        ahead : (a.next ≡ r) ⊎ ((f : IsFewer flat a.next r) × (f.operand ≡ n)) → IsAhead flat a.next r
        ahead (inl same) = inl same
        ahead (inr f) = inr f.0

    pub walks_over : {a : List Dot} → Walks flat last before a → Over a
    walks_over (begun {a = a} h) = let g = on a h in (g.0, begun g.1, g.2)
    walks_over (returns {p = p} {r = r} {below = below} w d) =
        let o = walks_over w in
        let g = walk_ahead o.0 p (r ∷ below) o.1 o.2 in
        (g.top ∷ g.below, g.walked, inl (ahead_done flat g.ahead d, g.dominates))
    walks_over (enters {q = q} {below = below} w c other st is) =
        let o = walks_over w in enter_over below (walk_ahead o.0 q below o.1 o.2) c other st is
    walks_over (enters_last {q = q} {below = below} w c other st is) =
        let o = walks_over w in enter_last_over below (walk_ahead o.0 q below o.1 o.2) c other st is
    walks_over (passes {q = q} {below = below} w c name null) =
        let o = walks_over w in
        let g = walk_ahead o.0 q below o.1 o.2 in
        let a = ahead_call flat g.ahead c in
        pass_over below g a (passes g.walked a.calling name null)

    -- what reads on top of one walk does so on top of the other
    pub reader_walked : {q r : Dot} {set : Set} {t : List Dot} → Walks flat last before (q ∷ t) → Reads flat q set r
        → (below : List Dot) × Walks flat last cover (q ∷ below)
    reader_walked {q = q} {t = t} w rd =
        let o = walks_over w in
        let g = walk_ahead o.0 q t o.1 o.2 in
        (g.below, subst (λ v. Walks flat last cover (v ∷ g.below)) (ahead_of_reader flat g.ahead rd) g.walked)

    -- what is called on top of one walk is called on top of the other
    pub call_walked : {q r : Dot} {s : ℕ} {t : List Dot} → Walks flat last before (q ∷ t) → Calls flat q s r
        → (p : Dot) × (next : Dot) × (below : List Dot) × Walks flat last cover (p ∷ below) × Calls flat p s next
    call_walked {q = q} {t = t} w c =
        let o = walks_over w in
        let g = walk_ahead o.0 q t o.1 o.2 in
        let a = ahead_call flat g.ahead c in
        (g.top, a.next, g.below, g.walked, a.calling)

  module _ (x : List ℕ) (j c : ℕ) (tops : List Dot → Type 0) (below : List Dot)
      (cover : IsPlainCover flat last x j tops below) where
    -- a symbol that is read from all stacks, and from those that cover them
    pub read_over : (a : List Dot) → ReadBy flat last (Reach flat last x j) c a
        → (b : List Dot) × ReadBy flat last (Lifted tops below) c b × Dominates flat b a
    read_over a (reads {q = q} {r = r} {set = set} {below = rest} before rd has) =
        let h = (cover.reading (q ∷ rest) (reading rd)).0 before in by h.over h.is h.reads h.dominates
      where
        by : (over : List Dot) → Lifted tops below over → IsReading flat over → Dominates flat over (q ∷ rest)
            → (b : List Dot) × ReadBy flat last (Lifted tops below) c b × Dominates flat b (r ∷ rest)
        by [] is it over = absurd (cc over)
        by (p ∷ s) is it over =
            let same = same_reader flat s rest it over rd in (
              r ∷ s,
              reads (subst (λ v. Lifted tops below (v ∷ s)) same.0 is) rd has,
              dominates_on flat r s rest same.1,
            )

    pub read_back : (a : List Dot) → ReadBy flat last (Lifted tops below) c a
        → ReadBy flat last (Reach flat last x j) c a
    read_back a (reads {q = q} {below = rest} before rd has) =
        reads ((cover.reading (q ∷ rest) (reading rd)).1 before) rd has
