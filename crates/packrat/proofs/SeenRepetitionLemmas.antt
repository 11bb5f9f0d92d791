-- What is seen of repetitions, sequences and choices where the next byte says which way to go.
-- Serves: Packrat::match_unit
use Rattle.std.proofs.Common.{◌≡◌, ◌⊎◌, inl, inr, ℕ, zero, ◌<◌, ◌≤◌, List}
use Rattle.std.proofs.Common.{Option, Some, None, length, refl, sym, subst, ap, arith, ◌∙◌}
use Rattle.std.specs.Prelude.{slice_get}
use Rattle.pegread.specs.Pattern.{Rule}
use Rattle.pegnodes.specs.Nodes as node
use Rattle.pegnodes.specs.Nodes.{Shape}
use Rattle.pegnodes.specs.declared.by_byte.ByteVerdict.{ByteVerdict}
use Rattle.pegnodes.specs.declared.by_byte.ByteVerdict.TheVariants.{Takes, Stays, Fails}
use Rattle.gramcheck.specs.Sound.{IsRanked}
use Rattle.pegmatch.specs.KeptEvents.{SpellsSome}
use Rattle.pegmatch.proofs.AsksLemmas.{goes_onward}
use Rattle.memo.specs.KeyLog.{position_of}
use Rattle.memo.specs.Parts.{reach_edge}
use Rattle.memo.specs.declared.task.MatchTask.{MatchTask}
use Rattle.memo.specs.declared.task.MatchTask.TheVariants.{Eval, Tail}
use Rattle.pegnodes.specs.NodeWays.{Iterations, way_of}
use Rattle.packrat.specs.MatchTasks.{LeadsBy}
use Rattle.pegnodes.specs.Predictive as pr
use Rattle.pegnodes.specs.Predictive.{IsPredictive, of_star, of_plus}
use Rattle.packrat.proofs.NodeOutcomeLemmas as o
use Rattle.packrat.proofs.SeenLemmas as seen
use Rattle.packrat.proofs.SeenLemmas.{le_cases}

module _ (rules : List Rule) (start : ℕ) (nodes : List Shape) (bodies ranks x : List ℕ)
    (sound : IsRanked rules start nodes bodies ranks) (root : ℕ) (is_root : slice_get bodies start ≡ Some root)
    (good : IsPredictive nodes bodies) where
  abbrev L : MatchTask → MatchTask → Type 0
  L a b = seen.L rules start nodes bodies ranks x sound root is_root good a b

  abbrev R : MatchTask → Type 0
  R a = seen.R rules start nodes bodies ranks x sound root is_root good a

  abbrev B : MatchTask → MatchTask → Type 0
  B a t = seen.B rules start nodes bodies ranks x sound root is_root good a t

  abbrev NT : ℕ → ℕ → ℕ → Type 0
  NT m p q = seen.NT rules start nodes bodies ranks x sound root is_root good m p q

  abbrev NF : ℕ → ℕ → Type 0
  NF m p = seen.NF rules start nodes bodies ranks x sound root is_root good m p

  abbrev At : ℕ → Shape → Type 0
  At n shape = seen.At rules start nodes bodies ranks x sound root is_root good n shape

  abbrev Sym : ℕ → ℕ → Type 0
  Sym q b = seen.Sym rules start nodes bodies ranks x sound root is_root good q b

  abbrev Flat : MatchTask → Type 0
  Flat a = seen.Flat rules start nodes bodies ranks x sound root is_root good a

  abbrev UpTo : MatchTask → ℕ → Type 0
  UpTo a q = seen.UpTo rules start nodes bodies ranks x sound root is_root good a q

  abbrev V : ℕ → ℕ → Option ByteVerdict
  V b n = seen.V rules start nodes bodies ranks x sound root is_root good b n

  abbrev VM : ℕ → List ℕ → Option ByteVerdict
  VM b ms = seen.VM rules start nodes bodies ranks x sound root is_root good b ms

  abbrev VA : ℕ → List ℕ → Option ByteVerdict
  VA b ms = seen.VA rules start nodes bodies ranks x sound root is_root good b ms

  abbrev Late : ℕ → ℕ → Type 0
  Late b n = seen.Late rules start nodes bodies ranks x sound root is_root good b n

  abbrev Over : ℕ → ℕ → Type 0
  Over b n = seen.Over rules start nodes bodies ranks x sound root is_root good b n

  abbrev MT : List ℕ → ℕ → ℕ → Type 0
  MT l p q = seen.MT rules start nodes bodies ranks x sound root is_root good l p q

  abbrev FT : List ℕ → ℕ → ℕ → Type 0
  FT l p q = seen.FT rules start nodes bodies ranks x sound root is_root good l p q

  abbrev Given : ℕ → ℕ → Option ByteVerdict → Type 0
  Given n p v = seen.Given rules start nodes bodies ranks x sound root is_root good n p v

  abbrev Passed : (ℕ → Type 0) → ℕ → Type 0
  Passed P q = seen.Passed rules start nodes bodies ranks x sound root is_root good P q

  abbrev Seen : ℕ → ℕ → Type 0
  Seen n p = seen.Seen rules start nodes bodies ranks x sound root is_root good n p

  abbrev GivenMembers : MatchTask → List ℕ → ℕ → Option ByteVerdict → Type 0
  GivenMembers a l p v = seen.GivenMembers rules start nodes bodies ranks x sound root is_root good a l p v

  abbrev SeenMembers : ℕ → ℕ → ℕ → List ℕ → Type 0
  SeenMembers n i p l = seen.SeenMembers rules start nodes bodies ranks x sound root is_root good n i p l

  abbrev GivenFirst : MatchTask → List ℕ → ℕ → Option ByteVerdict → Type 0
  GivenFirst a l p v = seen.GivenFirst rules start nodes bodies ranks x sound root is_root good a l p v

  abbrev SeenAlternatives : ℕ → ℕ → ℕ → List ℕ → Type 0
  SeenAlternatives n i p l = seen.SeenAlternatives rules start nodes bodies ranks x sound root is_root good n i p l

  node_visited : (n p : ℕ) → R (Eval n p) → SpellsSome rules nodes n × (p ≤ length x)
  node_visited n p r = seen.node_visited rules start nodes bodies ranks x sound root is_root good n p r

  goes_forward : {a t : MatchTask} → R a → B a t → position_of a ≤ position_of t
  goes_forward r h = seen.goes_forward rules start nodes bodies ranks x sound root is_root good r h

  takes_onward : (n p q : ℕ) → R (Eval n p) → NT n p q → p ≤ q
  takes_onward n p q r t = seen.takes_onward rules start nodes bodies ranks x sound root is_root good n p q r t

  one_end : {m p q r : ℕ} → NT m p q → NT m p r → q ≡ r
  one_end t u = seen.one_end rules start nodes bodies ranks x sound root is_root good t u

  not_both : {m p q : ℕ} → NT m p q → NF m p → ⊥
  not_both t f = seen.not_both rules start nodes bodies ranks x sound root is_root good t f

  leads_as : (n p : ℕ) (shape : Shape) → At n shape → (c : MatchTask) → L (Eval n p) c
      → LeadsBy rules nodes bodies x (way_of n shape) n p c
  leads_as n p shape at c l = seen.leads_as rules start nodes bodies ranks x sound root is_root good n p shape at c l

  first_step : {a t : MatchTask} → B a t → (t ≡ a) ⊎ ((c : MatchTask) × L a c × B c t)
  first_step h = seen.first_step rules start nodes bodies ranks x sound root is_root good h

  flat_at_end : (n p : ℕ) → R (Eval n p) → slice_get x p ≡ None → Flat (Eval n p)
  flat_at_end n p r e = seen.flat_at_end rules start nodes bodies ranks x sound root is_root good n p r e

  -- a repetition asks for its operand k, and then for the repetition s
  module _ (n k s p : ℕ) (r : R (Eval n p)) (shape : Shape) (at : At n shape) (way : way_of n shape ≡ Iterations k s)
      (star : At s (node.Star k)) (kid : Seen k p) (next : (q : ℕ) → NT k p q → Seen s q) where
    first_kid : R (Eval k p)
    first_kid = reach_edge r (
      shape,
      at,
      subst (λ v. LeadsBy rules nodes bodies x v n p (Eval k p)) (sym way) (inl refl),
    )

    again_step : {t : MatchTask} → B (Eval n p) t
        → (t ≡ Eval n p) ⊎ (B (Eval k p) t ⊎ ((q : ℕ) × NT k p q × B (Eval s q) t))
    again_step {t = t} h = elim (first_step h) [
      | inl is ↦ inl is
      | inr c ↦ elim (subst (λ v. LeadsBy rules nodes bodies x v n p c.0) way (leads_as n p shape at c.0 c.1)) [
        | inl is ↦ inr (inl (subst (λ v. B v t) is c.2))
        | inr e ↦ inr (inr (e.0, e.1, subst (λ v. B v t) e.2 c.2))
      ]
    ]

    next_kid : (q : ℕ) → NT k p q → R (Eval s q)
    next_kid q t = reach_edge r (
      shape,
      at,
      subst (λ v. LeadsBy rules nodes bodies x v n p (Eval s q)) (sym way) (inr (q, t, refl)),
    )

    -- an operand of a repetition takes some bytes
    operand_moves : (q : ℕ) → NT k p q → p < q
    operand_moves q t =
        let v = node_visited k p first_kid in
        let on = goes_onward rules start nodes bodies ranks x sound k p q v.1 t in
        let low = on.low in
        let not_here : q ≡ p → ⊥ = λ is. sound.moving.star s k star (on.null is) in
        omega (arith, low, not_here)

    -- where the operand asked beyond its end, the repetition ends there
    stops_there : (q b : ℕ) → (t : NT k p q) → Sym q b → Over b k → NT s q q × Flat (Eval s q)
    stops_there q b t sym_at over =
        let fails = (good.at b).settled.again n k s shape at way over in
        let is : V b s ≡ Some Stays = (good.at b).decided s (node.Star k) star ∙ ap of_star fails in
        subst (Given s q) is ((next q t).gives b sym_at)

    again_near : ((m : ℕ) → pr.Near nodes bodies k m → pr.Near nodes bodies n m) → (m : ℕ) → B (Eval n p) (Eval m p)
        → pr.Near nodes bodies n m
    again_near on m h = elim (again_step h) [
      | inl is ↦ let same : m ≡ n = cc is in subst (λ v. pr.Near nodes bodies n v) (sym same) pr.near_own
      | inr rest ↦ elim rest [
        | inl b ↦ on m (kid.near m b)
        | inr e ↦
            let far = operand_moves e.0 e.1 in
            let le = goes_forward (next_kid e.0 e.1) e.2 in
            absurd (omega (arith, far, le))
      ]
    ]

    again_fails : NF k p → Flat (Eval k p) → Flat (Eval n p)
    again_fails f flat t h = elim (again_step h) [
      | inl is ↦ ap position_of is
      | inr rest ↦ elim rest [
        | inl b ↦ flat t b
        | inr e ↦ absurd (not_both e.1 f)
      ]
    ]

    -- the operand takes some bytes, and the repetition goes on from there
    module _ (q z : ℕ) (one : NT k p q) (goes : NT s q z) where
      on_from : (q ≤ z) × (p < q)
      on_from = (takes_onward s q z (next_kid q one) goes, operand_moves q one)

      again_last : ((m : ℕ) → pr.Last nodes bodies k m → pr.Last nodes bodies n m)
          → ((m : ℕ) → pr.Last nodes bodies s m → pr.Last nodes bodies n m)
          → (m : ℕ) → B (Eval n p) (Eval m z) → pr.Last nodes bodies n m
      again_last of_kid of_next m h = elim (again_step h) [
        | inl is ↦
            let same : z ≡ p = cc is in
            let on = on_from in
            let a = on.0 in
            let b = on.1 in
            absurd (omega (arith, same, a, b))
        | inr rest ↦ elim rest [
          | inl b ↦ of_kid m (kid.last q m one (subst (λ v. B (Eval k p) (Eval m v)) (sym (ends_at b)) b))
          | inr e ↦
              let is = one_end e.1 one in
              of_next m ((next q one).last z m goes (subst (λ v. B (Eval s v) (Eval m z)) is e.2))
        ]
      ]
        where
          ends_at : B (Eval k p) (Eval m z) → q ≡ z
          ends_at b = elim (kid.clean q one) [
            | inl up ↦ let le = up (Eval m z) b in let ge = on_from.0 in omega (arith, le, ge)
            | inr d ↦ one_end (stops_there q d.0 one d.1 d.2).0 goes
          ]

      again_clean : UpTo (Eval n p) z ⊎ (Passed (λ b. Over b k) z ⊎ Passed (λ b. Over b s) z)
      again_clean = elim (kid.clean q one) [
        | inl up ↦ elim ((next q one).clean z goes) [
          | inl on ↦ inl (λ t h. elim (again_step h) [
            | inl is ↦
                let same = ap position_of is in
                let a = on_from.0 in
                let b = on_from.1 in
                omega (arith, same, a, b)
            | inr rest ↦ elim rest [
              | inl b ↦ let le = up t b in let a = on_from.0 in omega (arith, le, a)
              | inr e ↦ on t (subst (λ v. B (Eval s v) t) (one_end e.1 one) e.2)
            ]
          ])
          | inr d ↦ inr (inr d)
        ]
        | inr d ↦
            let is = one_end (stops_there q d.0 one d.1 d.2).0 goes in
            inr (inl (d.0, subst (λ v. Sym v d.0) is d.1, d.2))
      ]

  module _ (n p : ℕ) (r : R (Eval n p)) (has : SpellsSome rules nodes n) where
    pub star_seen : (k : ℕ) → At n (node.Star k) → Seen k p → ((q : ℕ) → NT k p q → Seen n q) → Seen n p
    star_seen k at kid next = record {
      near = again_near n k n p r (node.Star k) at refl at kid next (λ m h. pr.near_star at h);
      gives = λ b s. subst (Given n p) (sym ((good.at b).decided n (node.Star k) at)) (by b s (V b k) refl);
      empty = λ t. pr.empty_star at;
      last = λ q m t h. elim (takes t) [
        | inl f ↦ pr.last_empty (pr.empty_star at)
            (again_near n k n p r (node.Star k) at refl at kid next (λ j g. pr.near_star at g) m
            (subst (λ v. B (Eval n p) (Eval m v)) f.1 h))
        | inr u ↦ again_last n k n p r (node.Star k) at refl at kid next u.0 q u.1 u.2
            (λ j g. pr.last_star at g) (λ j g. g) m h
      ];
      clean = λ q t. elim (takes t) [
        | inl f ↦ elim (kid.late f.0) [
          | inl flat ↦ inl (λ u h. let is = fails f.0 flat u h in let at_p = f.1 in omega (arith, is, at_p))
          | inr d ↦ inr (d.0, subst (λ v. Sym v d.0) (sym f.1) d.1, pr.over_star at d.2)
        ]
        | inr u ↦ elim (again_clean n k n p r (node.Star k) at refl at kid next u.0 q u.1 u.2) [
          | inl up ↦ inl up
          | inr d ↦ elim d [
            | inl e ↦ inr (e.0, e.1, pr.over_again at e.2)
            | inr e ↦ inr e
          ]
        ]
      ];
      late = λ f. absurd (o.star_fails rules start nodes bodies ranks x sound n k at has f);
    }
      where
        takes : {q : ℕ} → NT n p q → (NF k p × (q ≡ p)) ⊎ ((z : ℕ) × NT k p z × NT n z q)
        takes t = o.star_takes rules start nodes bodies ranks x sound n k at has t

        fails : NF k p → Flat (Eval k p) → Flat (Eval n p)
        fails f flat = again_fails n k n p r (node.Star k) at refl at kid next f flat

        by : (b : ℕ) → Sym p b → (v : Option ByteVerdict) → V b k ≡ v → Given n p (of_star v)
        by b s None is = tt
        by b s (Some Fails) is =
            let g = subst (Given k p) is (kid.gives b s) in
            (o.star_none rules start nodes bodies ranks x sound n k at has g.0, fails g.0 g.1)
        by b s (Some Stays) is = tt
        by b s (Some Takes) is = tt

    pub plus_seen : (k s : ℕ) → At n (node.Plus k s) → Seen k p → ((q : ℕ) → NT k p q → Seen s q) → Seen n p
    plus_seen k s at kid next = record {
      near = again_near n k s p r (node.Plus k s) at refl star kid next (λ m h. pr.near_plus at h);
      gives = λ b e. subst (Given n p) (sym ((good.at b).decided n (node.Plus k s) at)) (by b e (V b k) refl);
      empty = λ t. absurd (
          let u = takes t in
          let far = operand_moves n k s p r (node.Plus k s) at refl star kid next u.0 u.1 in
          let le = takes_onward s u.0 p (next_kid n k s p r (node.Plus k s) at refl star kid next u.0 u.1) u.2 in
          omega (arith, far, le));
      last = λ q m t h.
          let u = takes t in
          again_last n k s p r (node.Plus k s) at refl star kid next u.0 q u.1 u.2
          (λ j g. pr.last_plus at (pr.last_star star g)) (λ j g. pr.last_plus at g) m h;
      clean = λ q t.
          let u = takes t in
          elim (again_clean n k s p r (node.Plus k s) at refl star kid next u.0 q u.1 u.2) [
            | inl up ↦ inl up
            | inr d ↦ elim d [
              | inl e ↦ inr (e.0, e.1, pr.over_plus at (pr.over_again star e.2))
              | inr e ↦ inr (e.0, e.1, pr.over_plus at e.2)
            ]
          ];
      late = λ f. elim (kid.late (failed f)) [
        | inl flat ↦ inl (fails (failed f) flat)
        | inr d ↦ inr (d.0, d.1, pr.late_plus at d.2)
      ];
    }
      where
        star : At s (node.Star k)
        star = o.star_of_plus rules start nodes bodies ranks x sound n k s at has

        takes : {q : ℕ} → NT n p q → (z : ℕ) × NT k p z × NT s z q
        takes t = o.plus_takes rules start nodes bodies ranks x sound n k s at has t

        failed : NF n p → NF k p
        failed f = o.plus_fails rules start nodes bodies ranks x sound n k s at has f

        fails : NF k p → Flat (Eval k p) → Flat (Eval n p)
        fails f flat = again_fails n k s p r (node.Plus k s) at refl star kid next f flat

        by : (b : ℕ) → Sym p b → (v : Option ByteVerdict) → V b k ≡ v → Given n p (of_plus v)
        by b e None is = tt
        by b e (Some Fails) is =
            let g = subst (Given k p) is (kid.gives b e) in
            (o.plus_none rules start nodes bodies ranks x sound n k s at has g.0, fails g.0 g.1)
        by b e (Some Stays) is = tt
        by b e (Some Takes) is = tt

    -- a sequence or choice leads to its first tail alone
    module _ (shape : Shape) (at : At n shape) (ms : List ℕ) (first : ℕ) (some : slice_get ms zero ≡ Some first)
        (l : L (Eval n p) (Tail n zero p)) (only : (c : MatchTask) → L (Eval n p) c → c ≡ Tail n zero p) where
      rest_step : {t : MatchTask} → B (Eval n p) t → (t ≡ Eval n p) ⊎ B (Tail n zero p) t
      rest_step {t = t} h = elim (first_step h) [
        | inl is ↦ inl is
        | inr c ↦ inr (subst (λ v. B v t) (only c.0 c.1) c.2)
      ]

      rest_flat : Flat (Tail n zero p) → Flat (Eval n p)
      rest_flat f t h = elim (rest_step h) [
        | inl is ↦ ap position_of is
        | inr b ↦ f t b
      ]

      rest_up : (q : ℕ) → NT n p q → UpTo (Tail n zero p) q → UpTo (Eval n p) q
      rest_up q u f t h = elim (rest_step h) [
        | inl is ↦ let same = ap position_of is in let le = takes_onward n p q r u in omega (arith, same, le)
        | inr b ↦ f t b
      ]

      rest_near : ((m : ℕ) → B (Tail n zero p) (Eval m p) → pr.Near nodes bodies n m) → (m : ℕ)
          → B (Eval n p) (Eval m p) → pr.Near nodes bodies n m
      rest_near on m h = elim (rest_step h) [
        | inl is ↦ let same : m ≡ n = cc is in subst (λ v. pr.Near nodes bodies n v) (sym same) pr.near_own
        | inr b ↦ on m b
      ]

      rest_last : (NT n p p → pr.Empty nodes bodies n) → (q m : ℕ) → NT n p q
          → (B (Tail n zero p) (Eval m q) → pr.Last nodes bodies n m) → B (Eval n p) (Eval m q)
          → pr.Last nodes bodies n m
      rest_last empty q m t on h = elim (rest_step h) [
        | inl is ↦
            let one : m ≡ n = cc is in
            let two : q ≡ p = cc is in
            pr.last_empty (empty (subst (λ v. NT n p v) two t))
            (subst (λ v. pr.Near nodes bodies n v) (sym one) pr.near_own)
        | inr b ↦ on b
      ]

    pub seq_seen : (ms : List ℕ) → At n (node.Seq ms) → (first : ℕ) → slice_get ms zero ≡ Some first
        → SeenMembers n zero p ms → Seen n p
    seq_seen ms at first some tail = record {
      near = rest_near (node.Seq ms) at ms first some l only (λ m h. pr.near_seq at (tail.near m h));
      gives = λ b s. subst (Given n p) (sym ((good.at b).decided n (node.Seq ms) at)) (by (VM b ms) (tail.gives b s));
      empty = empty;
      last = λ q m t h. rest_last (node.Seq ms) at ms first some l only empty q m t
          (λ g. pr.last_seq at (tail.last q m (takes t) g)) h;
      clean = λ q t. elim (tail.clean q (takes t)) [
        | inl up ↦ inl (rest_up (node.Seq ms) at ms first some l only q t up)
        | inr d ↦ inr (d.0, d.1, pr.over_seq at d.2)
      ];
      late = λ f. late f (slice_get x p) refl;
    }
      where
        l : L (Eval n p) (Tail n zero p)
        l = (node.Seq ms, at, (first, some, refl))

        only : (c : MatchTask) → L (Eval n p) c → c ≡ Tail n zero p
        only c h = (leads_as n p (node.Seq ms) at c h).2

        takes : {q : ℕ} → NT n p q → MT ms p q
        takes t = o.seq_takes rules start nodes bodies ranks x sound n ms at has t

        empty : NT n p p → pr.Empty nodes bodies n
        empty t = pr.empty_seq at (tail.empty (takes t))

        flat : Flat (Tail n zero p) → Flat (Eval n p)
        flat f = rest_flat (node.Seq ms) at ms first some l only f

        by : (v : Option ByteVerdict) → GivenMembers (Tail n zero p) ms p v → Given n p v
        by None g = tt
        by (Some Fails) g = (o.members_fail rules start nodes bodies ranks x sound n ms at has g.0, flat g.1)
        by (Some Stays) g = (o.members_take rules start nodes bodies ranks x sound n ms at has g.0, flat g.1)
        by (Some Takes) g =
            ((g.0.0, o.members_take rules start nodes bodies ranks x sound n ms at has g.0.1), flat g.1)

        late_by : (b : ℕ) → Sym p b → NF n p → (v : Option ByteVerdict) → V b n ≡ v
            → GivenMembers (Tail n zero p) ms p v → Flat (Eval n p) ⊎ Passed (λ b. Late b n) p
        late_by b s f None is g = inr (b, s, pr.late_seq at is)
        late_by b s f (Some Fails) is g = inl (flat g.1)
        late_by b s f (Some Stays) is g = inl (flat g.1)
        late_by b s f (Some Takes) is g = inl (flat g.1)

        late : NF n p → (v : Option ℕ) → slice_get x p ≡ v → Flat (Eval n p) ⊎ Passed (λ b. Late b n) p
        late f None is = inl (flat_at_end n p r is)
        late f (Some b) is = late_by b is f (VM b ms) ((good.at b).decided n (node.Seq ms) at) (tail.gives b is)

    pub choice_seen : (ms : List ℕ) → At n (node.Choice ms) → (first : ℕ) → slice_get ms zero ≡ Some first
        → SeenAlternatives n zero p ms → Seen n p
    choice_seen ms at first some tail = record {
      near = near;
      gives = λ b s. subst (Given n p) (sym ((good.at b).decided n (node.Choice ms) at))
          (by (VA b ms) (tail.gives b s));
      empty = empty;
      last = λ q m t h. elim (le_cases p q (takes_onward n p q r t)) [
        | inl is ↦ pr.last_empty (empty (subst (λ v. NT n p v) is t))
            (near m (subst (λ v. B (Eval n p) (Eval m v)) is h))
        | inr lt ↦ rest_last (node.Choice ms) at ms first some l only empty q m t
            (λ g. pr.last_choice at (tail.last q m lt (takes t) g)) h
      ];
      clean = λ q t. elim (tail.clean q (takes t)) [
        | inl up ↦ inl (rest_up (node.Choice ms) at ms first some l only q t up)
        | inr d ↦ inr (d.0, d.1, pr.over_choice at d.2)
      ];
      late = λ f. elim (tail.late (o.choice_fails rules start nodes bodies ranks x sound n ms at has f)) [
        | inl u ↦ inl (flat u)
        | inr d ↦ inr (d.0, d.1, pr.late_choice at d.2)
      ];
    }
      where
        l : L (Eval n p) (Tail n zero p)
        l = (node.Choice ms, at, (first, some, refl))

        only : (c : MatchTask) → L (Eval n p) c → c ≡ Tail n zero p
        only c h = (leads_as n p (node.Choice ms) at c h).2

        near : (m : ℕ) → B (Eval n p) (Eval m p) → pr.Near nodes bodies n m
        near = rest_near (node.Choice ms) at ms first some l only (λ m h. pr.near_choice at (tail.near m h))

        takes : {q : ℕ} → NT n p q → FT ms p q
        takes t = o.choice_takes rules start nodes bodies ranks x sound n ms at has t

        empty : NT n p p → pr.Empty nodes bodies n
        empty t = pr.empty_choice at (tail.empty (takes t))

        flat : Flat (Tail n zero p) → Flat (Eval n p)
        flat f = rest_flat (node.Choice ms) at ms first some l only f

        by : (v : Option ByteVerdict) → GivenFirst (Tail n zero p) ms p v → Given n p v
        by None g = tt
        by (Some Fails) g = (o.all_fail rules start nodes bodies ranks x sound n ms at has g.0, flat g.1)
        by (Some Stays) g = (o.first_takes rules start nodes bodies ranks x sound n ms at has g.0, flat g.1)
        by (Some Takes) g =
            ((g.0.0, o.first_takes rules start nodes bodies ranks x sound n ms at has g.0.1), flat g.1)
