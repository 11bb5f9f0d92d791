-- What is seen of the rest of a sequence or choice where the next byte says which way to go.
-- Serves: Packrat::match_unit
use Rattle.std.proofs.Common.{◌≡◌, ◌⊎◌, inl, inr, ℕ, suc, ◌<◌, ◌≤◌, List, [], ◌∷◌}
use Rattle.std.proofs.Common.{Option, Some, None, drop, length, refl, sym, subst, ap, arith, ◌∙◌}
use Rattle.std.specs.Prelude.{slice_get}
use Rattle.pegread.specs.Pattern.{Rule}
use Rattle.pegnodes.specs.Nodes as node
use Rattle.pegnodes.specs.Nodes.{Shape}
use Rattle.pegnodes.specs.declared.by_byte.ByteVerdict.{ByteVerdict}
use Rattle.pegnodes.specs.declared.by_byte.ByteVerdict.TheVariants.{Takes, Stays, Fails}
use Rattle.gramcheck.specs.Sound.{IsRanked}
use Rattle.pegmatch.specs.KeptEvents.{SpellsSome}
use Rattle.pegmatch.proofs.AsksLemmas.{goes_onward}
use Rattle.memo.specs.KeyLog.{position_of}
use Rattle.memo.specs.Parts.{reach_edge}
use Rattle.memo.specs.declared.task.MatchTask.{MatchTask}
use Rattle.memo.specs.declared.task.MatchTask.TheVariants.{Eval, Tail}
use Rattle.pegnodes.specs.NodeWays.{way_of}
use Rattle.packrat.specs.MatchTasks.{TailLeadsBy}
use Rattle.pegnodes.specs.Predictive as pr
use Rattle.pegnodes.specs.Predictive.{IsPredictive, then_rest, or_other}
use Rattle.pegnodes.specs.Predictive.{Settled}
use Rattle.packrat.proofs.NodeOutcomeLemmas as o
use Rattle.packrat.proofs.SeenLemmas as seen
use Rattle.packrat.proofs.SeenLemmas.{drop_past}
use Rattle.packrat.proofs.TaskReachLemmas.{front_drop}

module _ (rules : List Rule) (start : ℕ) (nodes : List Shape) (bodies ranks x : List ℕ)
    (sound : IsRanked rules start nodes bodies ranks) (root : ℕ) (is_root : slice_get bodies start ≡ Some root)
    (good : IsPredictive nodes bodies) where
  abbrev L : MatchTask → MatchTask → Type 0
  L a b = seen.L rules start nodes bodies ranks x sound root is_root good a b

  abbrev R : MatchTask → Type 0
  R a = seen.R rules start nodes bodies ranks x sound root is_root good a

  abbrev B : MatchTask → MatchTask → Type 0
  B a t = seen.B rules start nodes bodies ranks x sound root is_root good a t

  abbrev NT : ℕ → ℕ → ℕ → Type 0
  NT m p q = seen.NT rules start nodes bodies ranks x sound root is_root good m p q

  abbrev NF : ℕ → ℕ → Type 0
  NF m p = seen.NF rules start nodes bodies ranks x sound root is_root good m p

  abbrev At : ℕ → Shape → Type 0
  At n shape = seen.At rules start nodes bodies ranks x sound root is_root good n shape

  abbrev Sym : ℕ → ℕ → Type 0
  Sym q b = seen.Sym rules start nodes bodies ranks x sound root is_root good q b

  abbrev Flat : MatchTask → Type 0
  Flat a = seen.Flat rules start nodes bodies ranks x sound root is_root good a

  abbrev UpTo : MatchTask → ℕ → Type 0
  UpTo a q = seen.UpTo rules start nodes bodies ranks x sound root is_root good a q

  abbrev V : ℕ → ℕ → Option ByteVerdict
  V b n = seen.V rules start nodes bodies ranks x sound root is_root good b n

  abbrev VM : ℕ → List ℕ → Option ByteVerdict
  VM b ms = seen.VM rules start nodes bodies ranks x sound root is_root good b ms

  abbrev VA : ℕ → List ℕ → Option ByteVerdict
  VA b ms = seen.VA rules start nodes bodies ranks x sound root is_root good b ms

  abbrev Late : ℕ → ℕ → Type 0
  Late b n = seen.Late rules start nodes bodies ranks x sound root is_root good b n

  abbrev Over : ℕ → ℕ → Type 0
  Over b n = seen.Over rules start nodes bodies ranks x sound root is_root good b n

  abbrev MT : List ℕ → ℕ → ℕ → Type 0
  MT l p q = seen.MT rules start nodes bodies ranks x sound root is_root good l p q

  abbrev MF : List ℕ → ℕ → Type 0
  MF l p = seen.MF rules start nodes bodies ranks x sound root is_root good l p

  abbrev FT : List ℕ → ℕ → ℕ → Type 0
  FT l p q = seen.FT rules start nodes bodies ranks x sound root is_root good l p q

  abbrev AF : List ℕ → ℕ → Type 0
  AF l p = seen.AF rules start nodes bodies ranks x sound root is_root good l p

  abbrev Given : ℕ → ℕ → Option ByteVerdict → Type 0
  Given n p v = seen.Given rules start nodes bodies ranks x sound root is_root good n p v

  abbrev Passed : (ℕ → Type 0) → ℕ → Type 0
  Passed P q = seen.Passed rules start nodes bodies ranks x sound root is_root good P q

  abbrev Seen : ℕ → ℕ → Type 0
  Seen n p = seen.Seen rules start nodes bodies ranks x sound root is_root good n p

  abbrev GivenMembers : MatchTask → List ℕ → ℕ → Option ByteVerdict → Type 0
  GivenMembers a l p v = seen.GivenMembers rules start nodes bodies ranks x sound root is_root good a l p v

  abbrev SeenMembers : ℕ → ℕ → ℕ → List ℕ → Type 0
  SeenMembers n i p l = seen.SeenMembers rules start nodes bodies ranks x sound root is_root good n i p l

  abbrev GivenFirst : MatchTask → List ℕ → ℕ → Option ByteVerdict → Type 0
  GivenFirst a l p v = seen.GivenFirst rules start nodes bodies ranks x sound root is_root good a l p v

  abbrev SeenAlternatives : ℕ → ℕ → ℕ → List ℕ → Type 0
  SeenAlternatives n i p l = seen.SeenAlternatives rules start nodes bodies ranks x sound root is_root good n i p l

  node_visited : (n p : ℕ) → R (Eval n p) → SpellsSome rules nodes n × (p ≤ length x)
  node_visited n p r = seen.node_visited rules start nodes bodies ranks x sound root is_root good n p r

  goes_forward : {a t : MatchTask} → R a → B a t → position_of a ≤ position_of t
  goes_forward r h = seen.goes_forward rules start nodes bodies ranks x sound root is_root good r h

  takes_onward : (n p q : ℕ) → R (Eval n p) → NT n p q → p ≤ q
  takes_onward n p q r t = seen.takes_onward rules start nodes bodies ranks x sound root is_root good n p q r t

  one_end : {m p q r : ℕ} → NT m p q → NT m p r → q ≡ r
  one_end t u = seen.one_end rules start nodes bodies ranks x sound root is_root good t u

  not_both : {m p q : ℕ} → NT m p q → NF m p → ⊥
  not_both t f = seen.not_both rules start nodes bodies ranks x sound root is_root good t f

  members_onward : {l : List ℕ} {p q : ℕ} → p ≤ length x → MT l p q → p ≤ q
  members_onward le t = seen.members_onward rules start nodes bodies ranks x sound root is_root good le t

  members_one_end : {l : List ℕ} {p q r : ℕ} → MT l p q → MT l p r → q ≡ r
  members_one_end t u = seen.members_one_end rules start nodes bodies ranks x sound root is_root good t u

  members_not_both : {l : List ℕ} {p q : ℕ} → MT l p q → MF l p → ⊥
  members_not_both t f = seen.members_not_both rules start nodes bodies ranks x sound root is_root good t f

  first_one_end : {l : List ℕ} {p q r : ℕ} → FT l p q → FT l p r → q ≡ r
  first_one_end t u = seen.first_one_end rules start nodes bodies ranks x sound root is_root good t u

  first_not_all : {l : List ℕ} {p q : ℕ} → FT l p q → AF l p → ⊥
  first_not_all t f = seen.first_not_all rules start nodes bodies ranks x sound root is_root good t f

  tail_leads_as : (n i p : ℕ) (shape : Shape) → At n shape → (c : MatchTask) → L (Tail n i p) c
      → TailLeadsBy rules nodes bodies x (way_of n shape) n i p c
  tail_leads_as n i p shape at c l =
      seen.tail_leads_as rules start nodes bodies ranks x sound root is_root good n i p shape at c l

  first_step : {a t : MatchTask} → B a t → (t ≡ a) ⊎ ((c : MatchTask) × L a c × B c t)
  first_step h = seen.first_step rules start nodes bodies ranks x sound root is_root good h

  -- the tail begins with member i, which is m
  module _ (n i p : ℕ) (r : R (Tail n i p)) (ms : List ℕ) (m : ℕ) (there : slice_get ms i ≡ Some m) where
    abbrev rest : List ℕ
    rest = drop (suc i) ms

    -- the task is below the tail from the next member on, which begins at q
    abbrev Further : ℕ → MatchTask → Type 0
    Further q t = (k : ℕ) × (slice_get ms (suc i) ≡ Some k) × B (Tail n (suc i) q) t

    abbrev FlatRest : ℕ → Type 0
    FlatRest q = (t : MatchTask) → Further q t → position_of t ≡ q

    abbrev GivenRest : ℕ → Option ByteVerdict → Type 0
    GivenRest q None = Unit {0}
    GivenRest q (Some Fails) = MF rest q × FlatRest q
    GivenRest q (Some Stays) = MT rest q q × FlatRest q
    GivenRest q (Some Takes) = ((z : ℕ) × MT rest q z) × FlatRest q

    no_rest : slice_get ms (suc i) ≡ None → rest ≡ []
    no_rest is = drop_past ms (suc i) is

    module _ (at : At n (node.Seq ms)) (kid : Seen m p)
        (next : (q k : ℕ) → NT m p q → slice_get ms (suc i) ≡ Some k → SeenMembers n (suc i) q rest) where
      kid_reached : R (Eval m p)
      kid_reached = reach_edge r (node.Seq ms, at, (m, there, inl refl))

      next_reached : (q k : ℕ) → NT m p q → slice_get ms (suc i) ≡ Some k → R (Tail n (suc i) q)
      next_reached q k t is = reach_edge r (node.Seq ms, at, (m, there, inr (k, q, is, t, refl)))

      member_step : {t : MatchTask} → B (Tail n i p) t
          → (t ≡ Tail n i p) ⊎ (B (Eval m p) t ⊎ ((q : ℕ) × NT m p q × Further q t))
      member_step {t = t} h = elim (first_step h) [
        | inl is ↦ inl is
        | inr c ↦
            let g = tail_leads_as n i p (node.Seq ms) at c.0 c.1 in
            let same : g.0 ≡ m = cc (g.1, there) in
            elim g.2 [
              | inl is ↦ inr (inl (subst (λ v. B v t) (is ∙ ap (λ v. Eval v p) same) c.2))
              | inr e ↦ inr (inr (
                e.1,
                subst (λ v. NT v p e.1) same e.3,
                (e.0, e.2, subst (λ v. B v t) e.4 c.2),
              ))
            ]
      ]

      -- the member ends at q, where the rest begins
      module _ (q : ℕ) (one : NT m p q) where
        rest_forward : {t : MatchTask} → Further q t → q ≤ position_of t
        rest_forward f = goes_forward (next_reached q f.0 one f.1) f.2

        rest_seen_near : (j : ℕ) → Further q (Eval j q) → pr.NearMembers nodes bodies rest j
        rest_seen_near j f = (next q f.0 one f.1).near j f.2

        rest_gives : (b : ℕ) → Sym q b → (v : Option ℕ) → slice_get ms (suc i) ≡ v → (u : Option ByteVerdict)
            → VM b rest ≡ u
            → GivenRest q u
        rest_gives b s None is u eq =
            subst (GivenRest q) (sym (ap (VM b) (no_rest is)) ∙ eq)
            (subst (λ v. MT v q q) (sym (no_rest is)) o.take_none, λ t f. absurd (cc (f.1, is)))
        rest_gives b s (Some k) is u eq = subst (GivenRest q) eq (by (VM b rest) ((next q k one is).gives b s))
          where
            flat : Flat (Tail n (suc i) q) → FlatRest q
            flat f t g = f t g.2

            by : (v : Option ByteVerdict) → GivenMembers (Tail n (suc i) q) rest q v → GivenRest q v
            by None g = tt
            by (Some Fails) g = (g.0, flat g.1)
            by (Some Stays) g = (g.0, flat g.1)
            by (Some Takes) g = (g.0, flat g.1)

        rest_empty : MT rest q q → (v : Option ℕ) → slice_get ms (suc i) ≡ v → pr.AllEmpty nodes bodies rest
        rest_empty t None is = subst (pr.AllEmpty nodes bodies) (sym (no_rest is)) pr.all_none
        rest_empty t (Some k) is = (next q k one is).empty t

        -- where the member asked beyond its end, the rest asks for nothing later
        rest_settles : (z b : ℕ) → MT rest q z → Sym q b → Over b m → (q ≡ z) × (VM b rest ≡ Some Stays) × FlatRest q
        rest_settles z b t s over = by (VM b rest) refl ((good.at b).settled.after n i m ms at there over)
          where
            by : (v : Option ByteVerdict) → VM b rest ≡ v → Settled nodes bodies v
                → (q ≡ z) × (VM b rest ≡ Some Stays) × FlatRest q
            by None is d = absurd d
            by (Some Fails) is d =
                let g = rest_gives b s (slice_get ms (suc i)) refl (Some Fails) is in absurd (members_not_both t g.0)
            by (Some Stays) is d =
                let g = rest_gives b s (slice_get ms (suc i)) refl (Some Stays) is in
                (members_one_end g.0 t, is, g.1)
            by (Some Takes) is d = absurd d

        further_last : (z j : ℕ) → MT rest q z → Further q (Eval j z) → pr.LastMembers nodes bodies rest j
        further_last z j t f = (next q f.0 one f.1).last z j t f.2

        rest_clean : (z : ℕ) → MT rest q z → (v : Option ℕ) → slice_get ms (suc i) ≡ v
            → ((t : MatchTask) → Further q t → position_of t ≤ z)
            ⊎ Passed (λ b. pr.OverMembers nodes bodies (good.at b).of rest) z
        rest_clean z t None is = inl (λ u f. absurd (cc (f.1, is)))
        rest_clean z t (Some k) is = elim ((next q k one is).clean z t) [
          | inl up ↦ inl (λ u f. up u f.2)
          | inr d ↦ inr d
        ]

        rest_onward : (z : ℕ) → MT rest q z → (p ≤ q) × (q ≤ z)
        rest_onward z t =
            let v = node_visited m p kid_reached in
            let on = goes_onward rules start nodes bodies ranks x sound m p q v.1 one in
            (on.low, members_onward on.high t)

      tail_flat : Flat (Eval m p) → ((q : ℕ) → NT m p q → (t : MatchTask) → Further q t → position_of t ≡ p)
          → Flat (Tail n i p)
      tail_flat flat on t h = elim (member_step h) [
        | inl is ↦ ap position_of is
        | inr g ↦ elim g [
          | inl b ↦ flat t b
          | inr e ↦ on e.0 e.1 t e.2
        ]
      ]

      members_near : (j : ℕ) → B (Tail n i p) (Eval j p) → pr.NearMembers nodes bodies (m ∷ rest) j
      members_near j h = elim (member_step h) [
        | inl is ↦ absurd (cc is)
        | inr g ↦ elim g [
          | inl b ↦ pr.near_first (kid.near j b)
          | inr e ↦
              let up = rest_forward e.0 e.1 e.2 in
              let low = takes_onward m p e.0 kid_reached e.1 in
              let is : e.0 ≡ p = omega (arith, up, low) in
              pr.near_after (kid.empty (subst (λ v. NT m p v) is e.1))
              (rest_seen_near e.0 e.1 j (subst (λ v. Further e.0 (Eval j v)) (sym is) e.2))
        ]
      ]

      members_gives : (b : ℕ) → Sym p b → (v : Option ByteVerdict) → Given m p v
          → GivenMembers (Tail n i p) (m ∷ rest) p (then_rest v rest (VM b rest))
      members_gives b s None g = tt
      members_gives b s (Some Fails) g = (o.fail_here g.0, tail_flat g.1 (λ q one t f. absurd (not_both one g.0)))
      members_gives b s (Some Stays) g =
          by (VM b rest) (rest_gives p g.0 b s (slice_get ms (suc i)) refl (VM b rest) refl)
        where
          flat : FlatRest p → Flat (Tail n i p)
          flat h = tail_flat g.1 (λ q one t f. h t (subst (λ v. Further v t) (one_end one g.0) f))

          by : (u : Option ByteVerdict) → GivenRest p u → GivenMembers (Tail n i p) (m ∷ rest) p u
          by None h = tt
          by (Some Fails) h = (o.fail_after g.0 h.0, flat h.1)
          by (Some Stays) h = (o.take_more g.0 h.0, flat h.1)
          by (Some Takes) h = ((h.0.0, o.take_more g.0 h.0.1), flat h.1)
      members_gives b s (Some Takes) g = by rest refl
        where
          by : (l : List ℕ) → rest ≡ l → GivenMembers (Tail n i p) (m ∷ l) p (then_rest (Some Takes) l (VM b l))
          by [] is = (
            (g.0.0, o.take_more g.0.1 o.take_none),
            tail_flat g.1 (λ q one t f. let front = front_drop ms (suc i) f.0 f.1 in absurd (cc (front, is))),
          )
          by (k ∷ l) is = tt

      members_empty : MT (m ∷ rest) p p → pr.AllEmpty nodes bodies (m ∷ rest)
      members_empty (o.take_more {q = z} one u) =
          let on = rest_onward z one p u in
          let low = on.0 in
          let high = on.1 in
          let is : z ≡ p = omega (arith, low, high) in
          pr.all_more (kid.empty (subst (λ v. NT m p v) is one))
          (rest_empty z one (subst (λ v. MT rest z v) (sym is) u) (slice_get ms (suc i)) refl)

      -- the rest takes nothing where an evaluation below the member stands at the end of all
      ends_here : (z q j : ℕ) → (one : NT m p z) → MT rest z q → B (Eval m p) (Eval j q) → z ≡ q
      ends_here z q j one u b = elim (kid.clean z one) [
        | inl up ↦ let le = up (Eval j q) b in let ge = (rest_onward z one q u).1 in omega (arith, le, ge)
        | inr d ↦ (rest_settles z one q d.0 u d.1 d.2).0
      ]

      members_last : (q j : ℕ) → MT (m ∷ rest) p q → B (Tail n i p) (Eval j q)
          → pr.LastMembers nodes bodies (m ∷ rest) j
      members_last q j (o.take_more {q = z} one u) h = elim (member_step h) [
        | inl is ↦ absurd (cc is)
        | inr g ↦ elim g [
          | inl b ↦
              let is = ends_here z q j one u b in
              pr.last_here (kid.last z j one (subst (λ v. B (Eval m p) (Eval j v)) (sym is) b))
              (rest_empty z one (subst (λ v. MT rest z v) (sym is) u) (slice_get ms (suc i)) refl)
          | inr e ↦
              pr.last_after (further_last z one q j u (subst (λ v. Further v (Eval j q)) (one_end e.1 one) e.2))
        ]
      ]

      members_clean : (q : ℕ) → MT (m ∷ rest) p q → UpTo (Tail n i p) q
          ⊎ Passed (λ b. pr.OverMembers nodes bodies (good.at b).of (m ∷ rest)) q
      members_clean q (o.take_more {q = z} one u) = elim (kid.clean z one) [
        | inl up ↦ elim (rest_clean z one q u (slice_get ms (suc i)) refl) [
          | inl on ↦ inl (λ t h. elim (member_step h) [
            | inl is ↦
                let same = ap position_of is in
                let ways = rest_onward z one q u in
                let low = ways.0 in
                let high = ways.1 in
                omega (arith, same, low, high)
            | inr g ↦ elim g [
              | inl b ↦ let le = up t b in let high = (rest_onward z one q u).1 in omega (arith, le, high)
              | inr e ↦ on t (subst (λ v. Further v t) (one_end e.1 one) e.2)
            ]
          ])
          | inr d ↦ inr (d.0, d.1, pr.over_after d.2)
        ]
        | inr d ↦
            let st = rest_settles z one q d.0 u d.1 d.2 in
            inr (d.0, subst (λ v. Sym v d.0) st.0 d.1, pr.over_here d.2 st.1)
      ]

      pub members_seen : SeenMembers n i p (m ∷ rest)
      members_seen = record {
        near = members_near;
        gives = λ b s. members_gives b s (V b m) (kid.gives b s);
        empty = members_empty;
        last = members_last;
        clean = members_clean;
      }

    module _ (at : At n (node.Choice ms)) (kid : Seen m p)
        (next : (k : ℕ) → NF m p → slice_get ms (suc i) ≡ Some k → SeenAlternatives n (suc i) p rest) where
      abbrev Others : MatchTask → Type 0
      Others t = (k : ℕ) × (slice_get ms (suc i) ≡ Some k) × B (Tail n (suc i) p) t

      abbrev GivenOthers : Option ByteVerdict → Type 0
      GivenOthers None = Unit {0}
      GivenOthers (Some Fails) = AF rest p × FlatRest p
      GivenOthers (Some Stays) = FT rest p p × FlatRest p
      GivenOthers (Some Takes) = ((z : ℕ) × FT rest p z) × FlatRest p

      alternative_reached : R (Eval m p)
      alternative_reached = reach_edge r (node.Choice ms, at, (m, there, inl refl))

      alternative_step : {t : MatchTask} → B (Tail n i p) t
          → (t ≡ Tail n i p) ⊎ (B (Eval m p) t ⊎ (NF m p × Further p t))
      alternative_step {t = t} h = elim (first_step h) [
        | inl is ↦ inl is
        | inr c ↦
            let g = tail_leads_as n i p (node.Choice ms) at c.0 c.1 in
            let same : g.0 ≡ m = cc (g.1, there) in
            elim g.2 [
              | inl is ↦ inr (inl (subst (λ v. B v t) (is ∙ ap (λ v. Eval v p) same) c.2))
              | inr e ↦ inr (inr (subst (λ v. NF v p) same e.2, (e.0, e.1, subst (λ v. B v t) e.3 c.2)))
            ]
      ]

      -- this alternative fails
      module _ (failed : NF m p) where
        others_give : (b : ℕ) → Sym p b → (v : Option ℕ) → slice_get ms (suc i) ≡ v → (u : Option ByteVerdict)
            → VA b rest ≡ u → GivenOthers u
        others_give b s None is u eq =
            subst GivenOthers (sym (ap (VA b) (no_rest is)) ∙ eq)
            (subst (λ v. AF v p) (sym (no_rest is)) o.fail_none, λ t f. absurd (cc (f.1, is)))
        others_give b s (Some k) is u eq = subst GivenOthers eq (by (VA b rest) ((next k failed is).gives b s))
          where
            flat : Flat (Tail n (suc i) p) → FlatRest p
            flat f t g = f t g.2

            by : (v : Option ByteVerdict) → GivenFirst (Tail n (suc i) p) rest p v → GivenOthers v
            by None g = tt
            by (Some Fails) g = (g.0, flat g.1)
            by (Some Stays) g = (g.0, flat g.1)
            by (Some Takes) g = (g.0, flat g.1)

        others_empty : FT rest p p → (v : Option ℕ) → slice_get ms (suc i) ≡ v → pr.AnyEmpty nodes bodies rest
        others_empty t None is = absurd (first_not_all (subst (λ v. FT v p p) (no_rest is) t) o.fail_none)
        others_empty t (Some k) is = (next k failed is).empty t

        others_clean : (z : ℕ) → FT rest p z → (v : Option ℕ) → slice_get ms (suc i) ≡ v
            → ((t : MatchTask) → Further p t → position_of t ≤ z)
            ⊎ Passed (λ b. pr.OverAlternatives nodes bodies (good.at b).of rest) z
        others_clean z t None is = absurd (first_not_all (subst (λ v. FT v p z) (no_rest is) t) o.fail_none)
        others_clean z t (Some k) is = elim ((next k failed is).clean z t) [
          | inl up ↦ inl (λ u f. up u f.2)
          | inr d ↦ inr d
        ]

        others_late : AF rest p → (v : Option ℕ) → slice_get ms (suc i) ≡ v
            → FlatRest p ⊎ Passed (λ b. pr.LateAlternatives nodes bodies (good.at b).of rest) p
        others_late f None is = inl (λ t g. absurd (cc (g.1, is)))
        others_late f (Some k) is = elim ((next k failed is).late f) [
          | inl flat ↦ inl (λ t g. flat t g.2)
          | inr d ↦ inr d
        ]

        -- where this one failed late, the others ask for nothing later
        others_settle : (b : ℕ) → Sym p b → Late b m
            → ((AF rest p × (VA b rest ≡ Some Fails)) ⊎ (FT rest p p × (VA b rest ≡ Some Stays))) × FlatRest p
        others_settle b s late = by (VA b rest) refl ((good.at b).settled.others n i m ms at there late)
          where
            by : (v : Option ByteVerdict) → VA b rest ≡ v → Settled nodes bodies v
                → ((AF rest p × (VA b rest ≡ Some Fails)) ⊎ (FT rest p p × (VA b rest ≡ Some Stays))) × FlatRest p
            by None is d = absurd d
            by (Some Fails) is d =
                let g = others_give b s (slice_get ms (suc i)) refl (Some Fails) is in (inl (g.0, is), g.1)
            by (Some Stays) is d =
                let g = others_give b s (slice_get ms (suc i)) refl (Some Stays) is in (inr (g.0, is), g.1)
            by (Some Takes) is d = absurd d

      choice_flat : Flat (Eval m p) → (NF m p → FlatRest p) → Flat (Tail n i p)
      choice_flat flat on t h = elim (alternative_step h) [
        | inl is ↦ ap position_of is
        | inr g ↦ elim g [
          | inl b ↦ flat t b
          | inr e ↦ on e.0 t e.1
        ]
      ]

      alternatives_near : (j : ℕ) → B (Tail n i p) (Eval j p) → pr.NearAlternatives nodes bodies (m ∷ rest) j
      alternatives_near j h = elim (alternative_step h) [
        | inl is ↦ absurd (cc is)
        | inr g ↦ elim g [
          | inl b ↦ pr.near_here (kid.near j b)
          | inr e ↦ pr.near_later ((next e.1.0 e.0 e.1.1).near j e.1.2)
        ]
      ]

      alternatives_give : (b : ℕ) → Sym p b → (v : Option ByteVerdict) → Given m p v
          → GivenFirst (Tail n i p) (m ∷ rest) p (or_other v (VA b rest))
      alternatives_give b s None g = tt
      alternatives_give b s (Some Fails) g =
          by (VA b rest) (others_give g.0 b s (slice_get ms (suc i)) refl (VA b rest) refl)
        where
          by : (u : Option ByteVerdict) → GivenOthers u → GivenFirst (Tail n i p) (m ∷ rest) p u
          by None h = tt
          by (Some Fails) h = (o.fail_more g.0 h.0, choice_flat g.1 (λ f. h.1))
          by (Some Stays) h = (o.takes_later g.0 h.0, choice_flat g.1 (λ f. h.1))
          by (Some Takes) h = ((h.0.0, o.takes_later g.0 h.0.1), choice_flat g.1 (λ f. h.1))
      alternatives_give b s (Some Stays) g = (o.takes_here g.0, choice_flat g.1 (λ f. absurd (not_both g.0 f)))
      alternatives_give b s (Some Takes) g =
          ((g.0.0, o.takes_here g.0.1), choice_flat g.1 (λ f. absurd (not_both g.0.1 f)))

      alternatives_empty : FT (m ∷ rest) p p → pr.AnyEmpty nodes bodies (m ∷ rest)
      alternatives_empty (o.takes_here t) = pr.any_here (kid.empty t)
      alternatives_empty (o.takes_later f t) = pr.any_later (others_empty f t (slice_get ms (suc i)) refl)

      -- an evaluation below a failed alternative stands where the others end only if they take nothing
      stays_here : (q j : ℕ) → NF m p → FT rest p q → B (Eval m p) (Eval j q) → q ≡ p
      stays_here q j f t b = elim (kid.late f) [
        | inl flat ↦ flat (Eval j q) b
        | inr d ↦ elim (others_settle f d.0 d.1 d.2).0 [
          | inl g ↦ absurd (first_not_all t g.0)
          | inr g ↦ first_one_end t g.0
        ]
      ]

      alternatives_last : (q j : ℕ) → p < q → FT (m ∷ rest) p q → B (Tail n i p) (Eval j q)
          → pr.LastAlternatives nodes bodies (m ∷ rest) j
      alternatives_last q j lt (o.takes_here t) h = elim (alternative_step h) [
        | inl is ↦ absurd (cc is)
        | inr g ↦ elim g [
          | inl b ↦ pr.last_this (kid.last q j t b)
          | inr e ↦ absurd (not_both t e.0)
        ]
      ]
      alternatives_last q j lt (o.takes_later f t) h = elim (alternative_step h) [
        | inl is ↦ absurd (cc is)
        | inr g ↦ elim g [
          | inl b ↦ let is = stays_here q j f t b in absurd (omega (arith, is, lt))
          | inr e ↦ pr.last_later ((next e.1.0 e.0 e.1.1).last q j lt t e.1.2)
        ]
      ]

      alternatives_clean : (q : ℕ) → p ≤ q → FT (m ∷ rest) p q → UpTo (Tail n i p) q
          ⊎ Passed (λ b. pr.OverAlternatives nodes bodies (good.at b).of (m ∷ rest)) q
      alternatives_clean q le (o.takes_here t) = elim (kid.clean q t) [
        | inl up ↦ inl (λ u h. elim (alternative_step h) [
          | inl is ↦ let same = ap position_of is in omega (arith, same, le)
          | inr g ↦ elim g [
            | inl b ↦ up u b
            | inr e ↦ absurd (not_both t e.0)
          ]
        ])
        | inr d ↦ inr (d.0, d.1, pr.over_this d.2)
      ]
      alternatives_clean q le (o.takes_later f t) = elim (kid.late f) [
        | inl flat ↦ elim (others_clean f q t (slice_get ms (suc i)) refl) [
          | inl up ↦ inl (λ u h. elim (alternative_step h) [
            | inl is ↦ let same = ap position_of is in omega (arith, same, le)
            | inr g ↦ elim g [
              | inl b ↦ let same = flat u b in omega (arith, same, le)
              | inr e ↦ up u e.1
            ]
          ])
          | inr d ↦ inr (d.0, d.1, pr.over_later d.2)
        ]
        | inr d ↦ elim (others_settle f d.0 d.1 d.2).0 [
          | inl g ↦ absurd (first_not_all t g.0)
          | inr g ↦
              let is = first_one_end t g.0 in
              inr (d.0, subst (λ v. Sym v d.0) (sym is) d.1, pr.over_other d.2 g.1)
        ]
      ]

      alternatives_late : AF (m ∷ rest) p → Flat (Tail n i p)
          ⊎ Passed (λ b. pr.LateAlternatives nodes bodies (good.at b).of (m ∷ rest)) p
      alternatives_late (o.fail_more f fs) = elim (kid.late f) [
        | inl flat ↦ elim (others_late f fs (slice_get ms (suc i)) refl) [
          | inl on ↦ inl (choice_flat flat (λ g. on))
          | inr d ↦ inr (d.0, d.1, pr.late_later d.2)
        ]
        | inr d ↦ elim (others_settle f d.0 d.1 d.2).0 [
          | inl g ↦ inr (d.0, d.1, pr.late_here d.2 g.1)
          | inr g ↦ absurd (first_not_all g.0 fs)
        ]
      ]

      first_onward : {l : List ℕ} {q : ℕ} → FT l p q → p ≤ q
      first_onward (o.takes_here {m = j} {q = z} t) =
          let v = node_visited m p alternative_reached in
          (goes_onward rules start nodes bodies ranks x sound j p z v.1 t).low
      first_onward (o.takes_later f t) = first_onward t

      pub alternatives_seen : SeenAlternatives n i p (m ∷ rest)
      alternatives_seen = record {
        near = alternatives_near;
        gives = λ b s. alternatives_give b s (V b m) (kid.gives b s);
        empty = alternatives_empty;
        last = alternatives_last;
        clean = λ q t. alternatives_clean q (first_onward t) t;
        late = alternatives_late;
      }
