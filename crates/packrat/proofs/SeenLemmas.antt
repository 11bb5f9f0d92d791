-- What is seen of leaves, names, options and predicates where the next byte says which way to go.
-- Serves: Packrat::match_unit
use Rattle.std.proofs.Common.{◌≡◌, ◌⊎◌, inl, inr, ℕ, zero, suc, ◌<◌, ◌≤◌, List, [], ◌∷◌}
use Rattle.std.proofs.Common.{Option, Some, None, drop, length, refl, sym, subst, ap, arith, ◌∙◌}
use Rattle.std.specs.Prelude.{slice_get}
use Rattle.pegread.specs.Pattern.{Rule}
use Rattle.pegnodes.specs.Nodes as node
use Rattle.pegnodes.specs.Nodes.{Shape}
use Rattle.pegnodes.specs.declared.by_byte.ByteVerdict.{ByteVerdict}
use Rattle.pegnodes.specs.declared.by_byte.ByteVerdict.TheVariants.{Takes, Stays, Fails}
use Rattle.gramcheck.specs.Sound.{IsRanked}
use Rattle.pegmatch.specs.KeptEvents.{SpellsSome}
use Rattle.pegmatch.specs.Visits.{NodeTakes, NodeFails}
use Rattle.pegmatch.proofs.AsksLemmas.{goes_onward, is_visited}
use Rattle.memo.specs.KeyLog.{position_of}
use Rattle.memo.specs.Parts.{Reach, reach_edge}
use Rattle.memo.specs.declared.task.MatchTask.{MatchTask}
use Rattle.memo.specs.declared.task.MatchTask.TheVariants.{Eval, Tail}
use Rattle.pegnodes.specs.NodeWays.{way_of}
use Rattle.packrat.specs.MatchTasks.{LeadsBy, TailLeadsBy, Leads}
use Rattle.pegnodes.specs.Predictive as pr
use Rattle.pegnodes.specs.Predictive.{IsPredictive, of_members, of_alternatives}
use Rattle.pegnodes.specs.Predictive.{of_opt, of_and, of_not, of_body}
use Rattle.packrat.proofs.BelowLemmas as w
use Rattle.packrat.proofs.NodeOutcomeLemmas as o
use Rattle.packrat.proofs.TaskKidsLemmas.{takes_same, takes_fails}
use Rattle.packrat.proofs.TaskReachLemmas.{reached_is_visited}

pub le_cases : (p q : ℕ) → p ≤ q → (q ≡ p) ⊎ (p < q)
le_cases zero zero le = inl refl
le_cases zero (suc q) le = inr (omega arith)
le_cases (suc p) zero le = absurd (omega (arith, le))
le_cases (suc p) (suc q) le = elim (le_cases p q (omega (arith, le))) [
  | inl is ↦ inl (ap suc is)
  | inr lt ↦ inr (omega (arith, lt))
]

pub drop_past : (ms : List ℕ) (k : ℕ) → slice_get ms k ≡ None → drop k ms ≡ []
drop_past [] zero is = refl
drop_past [] (suc k) is = refl
drop_past (m ∷ ms) zero is = absurd (cc is)
drop_past (m ∷ ms) (suc k) is = drop_past ms k is

module _ (rules : List Rule) (start : ℕ) (nodes : List Shape) (bodies ranks x : List ℕ)
    (sound : IsRanked rules start nodes bodies ranks) (root : ℕ) (is_root : slice_get bodies start ≡ Some root)
    (good : IsPredictive nodes bodies) where
  abbrev pub L : MatchTask → MatchTask → Type 0
  L a b = Leads rules nodes bodies x a b

  abbrev pub R : MatchTask → Type 0
  R a = Reach MatchTask (Leads rules nodes bodies x) (Eval root 0) a

  abbrev pub B : MatchTask → MatchTask → Type 0
  B a t = Reach MatchTask (Leads rules nodes bodies x) a t

  abbrev pub NT : ℕ → ℕ → ℕ → Type 0
  NT m p q = NodeTakes rules nodes bodies x m p q

  abbrev pub NF : ℕ → ℕ → Type 0
  NF m p = NodeFails rules nodes bodies x m p

  abbrev pub At : ℕ → Shape → Type 0
  At n s = slice_get nodes n ≡ Some s

  abbrev pub Sym : ℕ → ℕ → Type 0
  Sym q b = slice_get x q ≡ Some b

  abbrev pub Flat : MatchTask → Type 0
  Flat a = (t : MatchTask) → B a t → position_of t ≡ position_of a

  abbrev pub UpTo : MatchTask → ℕ → Type 0
  UpTo a q = (t : MatchTask) → B a t → position_of t ≤ q

  abbrev pub V : ℕ → ℕ → Option ByteVerdict
  V b n = (good.at b).of n

  abbrev pub VM : ℕ → List ℕ → Option ByteVerdict
  VM b ms = of_members (good.at b).of ms

  abbrev pub VA : ℕ → List ℕ → Option ByteVerdict
  VA b ms = of_alternatives (good.at b).of ms

  abbrev pub Late : ℕ → ℕ → Type 0
  Late b n = pr.Late nodes bodies (good.at b).of n

  abbrev pub Over : ℕ → ℕ → Type 0
  Over b n = pr.Over nodes bodies (good.at b).of n

  abbrev pub MT : List ℕ → ℕ → ℕ → Type 0
  MT l p q = o.MembersTake rules start nodes bodies ranks x sound l p q

  abbrev pub MF : List ℕ → ℕ → Type 0
  MF l p = o.MembersFail rules start nodes bodies ranks x sound l p

  abbrev pub FT : List ℕ → ℕ → ℕ → Type 0
  FT l p q = o.FirstTakes rules start nodes bodies ranks x sound l p q

  abbrev pub AF : List ℕ → ℕ → Type 0
  AF l p = o.AllFail rules start nodes bodies ranks x sound l p

  -- a verdict gives what an evaluation does, and all below it stands at its position
  abbrev pub Given : ℕ → ℕ → Option ByteVerdict → Type 0
  Given n p None = Unit {0}
  Given n p (Some Fails) = NF n p × Flat (Eval n p)
  Given n p (Some Stays) = NT n p p × Flat (Eval n p)
  Given n p (Some Takes) = ((q : ℕ) × NT n p q) × Flat (Eval n p)

  -- a byte that has the property stands at q
  abbrev pub Passed : (ℕ → Type 0) → ℕ → Type 0
  Passed P q = (b : ℕ) × Sym q b × P b

  pub record Seen (n p : ℕ) : Type 0 where
    pub near : (m : ℕ) → B (Eval n p) (Eval m p) → pr.Near nodes bodies n m
    pub gives : (b : ℕ) → Sym p b → Given n p (V b n)
    pub empty : NT n p p → pr.Empty nodes bodies n
    pub last : (q m : ℕ) → NT n p q → B (Eval n p) (Eval m q) → pr.Last nodes bodies n m
    pub clean : (q : ℕ) → NT n p q → UpTo (Eval n p) q ⊎ Passed (λ b. Over b n) q
    pub late : NF n p → Flat (Eval n p) ⊎ Passed (λ b. Late b n) p

  -- a verdict gives what members in order do, and all below their task stands at its position
  abbrev pub GivenMembers : MatchTask → List ℕ → ℕ → Option ByteVerdict → Type 0
  GivenMembers a l p None = Unit {0}
  GivenMembers a l p (Some Fails) = MF l p × Flat a
  GivenMembers a l p (Some Stays) = MT l p p × Flat a
  GivenMembers a l p (Some Takes) = ((q : ℕ) × MT l p q) × Flat a

  pub record SeenMembers (n i p : ℕ) (l : List ℕ) : Type 0 where
    pub near : (m : ℕ) → B (Tail n i p) (Eval m p) → pr.NearMembers nodes bodies l m
    pub gives : (b : ℕ) → Sym p b → GivenMembers (Tail n i p) l p (VM b l)
    pub empty : MT l p p → pr.AllEmpty nodes bodies l
    pub last : (q m : ℕ) → MT l p q → B (Tail n i p) (Eval m q) → pr.LastMembers nodes bodies l m
    pub clean : (q : ℕ) → MT l p q → UpTo (Tail n i p) q ⊎ Passed (λ b. pr.OverMembers nodes bodies (good.at b).of l) q

  abbrev pub GivenFirst : MatchTask → List ℕ → ℕ → Option ByteVerdict → Type 0
  GivenFirst a l p None = Unit {0}
  GivenFirst a l p (Some Fails) = AF l p × Flat a
  GivenFirst a l p (Some Stays) = FT l p p × Flat a
  GivenFirst a l p (Some Takes) = ((q : ℕ) × FT l p q) × Flat a

  pub record SeenAlternatives (n i p : ℕ) (l : List ℕ) : Type 0 where
    pub near : (m : ℕ) → B (Tail n i p) (Eval m p) → pr.NearAlternatives nodes bodies l m
    pub gives : (b : ℕ) → Sym p b → GivenFirst (Tail n i p) l p (VA b l)
    pub empty : FT l p p → pr.AnyEmpty nodes bodies l
    pub last : (q m : ℕ) → p < q → FT l p q → B (Tail n i p) (Eval m q) → pr.LastAlternatives nodes bodies l m
    pub clean : (q : ℕ) → FT l p q → UpTo (Tail n i p) q
        ⊎ Passed (λ b. pr.OverAlternatives nodes bodies (good.at b).of l) q
    pub late : AF l p → Flat (Tail n i p) ⊎ Passed (λ b. pr.LateAlternatives nodes bodies (good.at b).of l) p

  abbrev pub SeenTail : Shape → ℕ → ℕ → ℕ → Type 0
  SeenTail node.Any n i p = ⊥
  SeenTail (node.Bytes bs) n i p = ⊥
  SeenTail (node.Set s) n i p = ⊥
  SeenTail (node.Name id) n i p = ⊥
  SeenTail (node.Seq ms) n i p = SeenMembers n i p (drop i ms)
  SeenTail (node.Choice ms) n i p = SeenAlternatives n i p (drop i ms)
  SeenTail (node.Star k) n i p = ⊥
  SeenTail (node.Plus k s) n i p = ⊥
  SeenTail (node.Opt k) n i p = ⊥
  SeenTail (node.And k) n i p = ⊥
  SeenTail (node.Not k) n i p = ⊥
  SeenTail (node.Act t) n i p = ⊥
  SeenTail node.Open n i p = ⊥
  SeenTail node.Close n i p = ⊥

  abbrev pub Sees : MatchTask → Type 0
  Sees (Eval n p) = Seen n p
  Sees (Tail n i p) = (shape : Shape) × At n shape × SeenTail shape n i p

  -- what is reached is spelled, and stands no later than the end of the input
  pub node_visited : (n p : ℕ) → R (Eval n p) → SpellsSome rules nodes n × (p ≤ length x)
  node_visited n p r =
      let v = is_visited rules start nodes bodies ranks x sound
      (reached_is_visited rules start nodes bodies x root is_root n p r) in
      (v.spelled, v.high)

  pub goes_forward : {a t : MatchTask} → R a → B a t → position_of a ≤ position_of t
  goes_forward r h = w.below_forward rules start nodes bodies ranks x sound root is_root r h

  pub takes_onward : (n p q : ℕ) → R (Eval n p) → NT n p q → p ≤ q
  takes_onward n p q r t = (goes_onward rules start nodes bodies ranks x sound n p q (node_visited n p r).1 t).low

  pub one_end : {m p q r : ℕ} → NT m p q → NT m p r → q ≡ r
  one_end t u = takes_same rules start nodes bodies ranks x sound t u

  pub not_both : {m p q : ℕ} → NT m p q → NF m p → ⊥
  not_both t f = takes_fails rules start nodes bodies ranks x sound t f

  pub members_onward : {l : List ℕ} {p q : ℕ} → p ≤ length x → MT l p q → p ≤ q
  members_onward le o.take_none = omega arith
  members_onward le (o.take_more {m = m} {p = p} {q = z} t u) =
      let on = goes_onward rules start nodes bodies ranks x sound m p z le t in
      let low = on.low in
      let rest = members_onward on.high u in
      omega (arith, low, rest)

  pub members_one_end : {l : List ℕ} {p q r : ℕ} → MT l p q → MT l p r → q ≡ r
  members_one_end o.take_none o.take_none = refl
  members_one_end (o.take_more {q = z} {ms = ms} t u) (o.take_more {r = r} t' u') =
      let is = one_end t t' in members_one_end u (subst (λ v. MT ms v r) (sym is) u')

  pub members_not_both : {l : List ℕ} {p q : ℕ} → MT l p q → MF l p → ⊥
  members_not_both o.take_none f = elim f [ ]
  members_not_both (o.take_more t u) (o.fail_here f) = not_both t f
  members_not_both (o.take_more {ms = ms} t u) (o.fail_after t' f) =
      let is = one_end t t' in members_not_both u (subst (MF ms) (sym is) f)

  pub first_one_end : {l : List ℕ} {p q r : ℕ} → FT l p q → FT l p r → q ≡ r
  first_one_end (o.takes_here t) (o.takes_here u) = one_end t u
  first_one_end (o.takes_here t) (o.takes_later f u) = absurd (not_both t f)
  first_one_end (o.takes_later f t) (o.takes_here u) = absurd (not_both u f)
  first_one_end (o.takes_later f t) (o.takes_later g u) = first_one_end t u

  pub first_not_all : {l : List ℕ} {p q : ℕ} → FT l p q → AF l p → ⊥
  first_not_all (o.takes_here t) (o.fail_more f fs) = not_both t f
  first_not_all (o.takes_later g t) (o.fail_more f fs) = first_not_all t fs

  -- a task leads only to what the shape of its node allows
  pub leads_as : (n p : ℕ) (shape : Shape) → At n shape → (c : MatchTask) → L (Eval n p) c
      → LeadsBy rules nodes bodies x (way_of n shape) n p c
  leads_as n p shape at c l =
      let same : l.0 ≡ shape = cc (l.1, at) in
      subst (λ v. LeadsBy rules nodes bodies x (way_of n v) n p c) same l.2

  pub tail_leads_as : (n i p : ℕ) (shape : Shape) → At n shape → (c : MatchTask) → L (Tail n i p) c
      → TailLeadsBy rules nodes bodies x (way_of n shape) n i p c
  tail_leads_as n i p shape at c l =
      let same : l.0 ≡ shape = cc (l.1, at) in
      subst (λ v. TailLeadsBy rules nodes bodies x (way_of n v) n i p c) same l.2

  pub first_step : {a t : MatchTask} → B a t → (t ≡ a) ⊎ ((c : MatchTask) × L a c × B c t)
  first_step h = w.first_step rules start nodes bodies ranks x sound root is_root h

  pub flat_at_end : (n p : ℕ) → R (Eval n p) → slice_get x p ≡ None → Flat (Eval n p)
  flat_at_end n p r e = w.flat_at_end rules start nodes bodies ranks x sound root is_root r e

  -- the evaluation leads to no other task
  module _ (n p : ℕ) (r : R (Eval n p)) (none : (c : MatchTask) → L (Eval n p) c → ⊥) where
    pub own_task : (t : MatchTask) → B (Eval n p) t → t ≡ Eval n p
    own_task t h = elim (first_step h) [
      | inl is ↦ is
      | inr c ↦ absurd (none c.0 c.1)
    ]

    pub own_flat : Flat (Eval n p)
    own_flat t h = ap position_of (own_task t h)

    pub leaf_gives : (v : Option ByteVerdict) → (v ≡ Some Fails → NF n p) → (v ≡ Some Stays → NT n p p)
        → (v ≡ Some Takes → (q : ℕ) × NT n p q) → Given n p v
    leaf_gives None f s t = tt
    leaf_gives (Some Fails) f s t = (f refl, own_flat)
    leaf_gives (Some Stays) f s t = (s refl, own_flat)
    leaf_gives (Some Takes) f s t = (t refl, own_flat)

    pub leaf_seen : ((b : ℕ) → Sym p b → Given n p (V b n)) → (NT n p p → pr.Empty nodes bodies n) → Seen n p
    leaf_seen gives empty = record {
      near = λ m h.
          let is : m ≡ n = cc (own_task (Eval m p) h) in
          subst (λ v. pr.Near nodes bodies n v) (sym is) pr.near_own;
      gives = gives;
      empty = empty;
      last = λ q m t h.
          let is = own_task (Eval m q) h in
          let one : m ≡ n = cc is in
          let two : q ≡ p = cc is in
          pr.last_empty (empty (subst (λ v. NT n p v) two t))
          (subst (λ v. pr.Near nodes bodies n v) (sym one) pr.near_own);
      clean = λ q t. inl (λ u h. let is = own_flat u h in let le = takes_onward n p q r t in omega (arith, is, le));
      late = λ f. inl own_flat;
    }

  -- the evaluation leads to one other alone, at its position
  module _ (n k p : ℕ) (r : R (Eval n p)) (shape : Shape) (at : At n shape) (l : L (Eval n p) (Eval k p))
      (only : (c : MatchTask) → L (Eval n p) c → c ≡ Eval k p) (kid : Seen k p) where
    pub under_kid : {P : MatchTask → Type 0} → P (Eval n p) → ((t : MatchTask) → B (Eval k p) t → P t) → (t : MatchTask)
        → B (Eval n p) t → P t
    under_kid {P = P} own_task below t h = elim (first_step h) [
      | inl is ↦ subst P (sym is) own_task
      | inr c ↦ below t (subst (λ v. B v t) (only c.0 c.1) c.2)
    ]

    pub under_flat : Flat (Eval k p) → Flat (Eval n p)
    under_flat f = under_kid {P = λ t. position_of t ≡ p} refl f

    under_up : (q : ℕ) → p ≤ q → UpTo (Eval k p) q → UpTo (Eval n p) q
    under_up q le u = under_kid {P = λ t. position_of t ≤ q} le u

    under_near : ((m : ℕ) → pr.Near nodes bodies k m → pr.Near nodes bodies n m) → (m : ℕ) → B (Eval n p) (Eval m p)
        → pr.Near nodes bodies n m
    under_near on m h = elim (first_step h) [
      | inl is ↦ let same : m ≡ n = cc is in subst (λ v. pr.Near nodes bodies n v) (sym same) pr.near_own
      | inr c ↦ on m (kid.near m (subst (λ v. B v (Eval m p)) (only c.0 c.1) c.2))
    ]

    -- the node itself stands where it ends only if it takes nothing
    under_last : ((m q : ℕ) → NT n p q → B (Eval k p) (Eval m q) → pr.Last nodes bodies n m)
        → (NT n p p → pr.Empty nodes bodies n)
        → (q m : ℕ) → NT n p q → B (Eval n p) (Eval m q) → pr.Last nodes bodies n m
    under_last on empty q m t h = elim (first_step h) [
      | inl is ↦
          let one : m ≡ n = cc is in
          let two : q ≡ p = cc is in
          pr.last_empty (empty (subst (λ v. NT n p v) two t))
          (subst (λ v. pr.Near nodes bodies n v) (sym one) pr.near_own)
      | inr c ↦ on m q t (subst (λ v. B v (Eval m q)) (only c.0 c.1) c.2)
    ]

  module _ (n p : ℕ) (r : R (Eval n p)) (has : SpellsSome rules nodes n) where
    pub name_seen : (id k : ℕ) → At n (node.Name id) → slice_get bodies id ≡ Some k → Seen k p → Seen n p
    name_seen id k at body kid = record {
      near = under_near n k p r (node.Name id) at l only kid (λ m h. pr.near_name at body h);
      gives = λ b s. subst (Given n p) (sym (eq b)) (by b s (V b k) refl);
      empty = λ t. pr.empty_name at body (kid.empty (takes t));
      last = under_last n k p r (node.Name id) at l only kid
          (λ m q t h. pr.last_name at body (kid.last q m (takes t) h))
          (λ t. pr.empty_name at body (kid.empty (takes t)));
      clean = λ q t. elim (kid.clean q (takes t)) [
        | inl u ↦ inl (under_up n k p r (node.Name id) at l only kid q (takes_onward n p q r t) u)
        | inr h ↦ inr (h.0, h.1, pr.over_name at body h.2)
      ];
      late = λ f. elim (kid.late (fails f)) [
        | inl u ↦ inl (under_flat n k p r (node.Name id) at l only kid u)
        | inr h ↦ inr (h.0, h.1, pr.late_name at body h.2)
      ];
    }
      where
        l : L (Eval n p) (Eval k p)
        l = (node.Name id, at, (k, body, refl))

        only : (c : MatchTask) → L (Eval n p) c → c ≡ Eval k p
        only c h =
            let g = leads_as n p (node.Name id) at c h in
            let same : g.0 ≡ k = cc (g.1, body) in
            g.2 ∙ ap (λ v. Eval v p) same

        takes : {q : ℕ} → NT n p q → NT k p q
        takes {q = q} t = o.name_takes rules start nodes bodies ranks x sound n id k at has body t

        fails : NF n p → NF k p
        fails f = o.name_fails rules start nodes bodies ranks x sound n id k at has body f

        took : {q : ℕ} → NT k p q → NT n p q
        took {q = q} t = o.name_took rules start nodes bodies ranks x sound n id k at has body t

        failed : NF k p → NF n p
        failed f = o.name_failed rules start nodes bodies ranks x sound n id k at has body f

        eq : (b : ℕ) → V b n ≡ V b k
        eq b = (good.at b).decided n (node.Name id) at ∙ ap (of_body (good.at b).of) body

        by : (b : ℕ) → Sym p b → (v : Option ByteVerdict) → V b k ≡ v → Given n p v
        by b s None is = tt
        by b s (Some Fails) is =
            let g = subst (Given k p) is (kid.gives b s) in
            (failed g.0, under_flat n k p r (node.Name id) at l only kid g.1)
        by b s (Some Stays) is =
            let g = subst (Given k p) is (kid.gives b s) in
            (took g.0, under_flat n k p r (node.Name id) at l only kid g.1)
        by b s (Some Takes) is =
            let g = subst (Given k p) is (kid.gives b s) in
            ((g.0.0, took g.0.1), under_flat n k p r (node.Name id) at l only kid g.1)

    pub opt_seen : (k : ℕ) → At n (node.Opt k) → Seen k p → Seen n p
    opt_seen k at kid = record {
      near = under_near n k p r (node.Opt k) at l only kid (λ m h. pr.near_opt at h);
      gives = λ b s. subst (Given n p) (sym ((good.at b).decided n (node.Opt k) at)) (by b s (V b k) refl);
      empty = λ t. pr.empty_opt at;
      last = under_last n k p r (node.Opt k) at l only kid
          (λ m q t h. elim (takes t) [
            | inl u ↦ pr.last_opt at (kid.last q m u h)
            | inr f ↦ pr.last_empty (pr.empty_opt at)
                (pr.near_opt at (kid.near m (subst (λ v. B (Eval k p) (Eval m v)) f.1 h)))
          ])
          (λ t. pr.empty_opt at);
      clean = λ q t. elim (takes t) [
        | inl u ↦ elim (kid.clean q u) [
          | inl up ↦ inl (under_up n k p r (node.Opt k) at l only kid q (takes_onward n p q r t) up)
          | inr h ↦ inr (h.0, h.1, pr.over_opt at h.2)
        ]
        | inr f ↦ elim (kid.late f.0) [
          | inl flat ↦ inl (λ u h. let is = under_flat n k p r (node.Opt k) at l only kid flat u h in
              let le = takes_onward n p q r t in omega (arith, is, le))
          | inr h ↦ inr (h.0, subst (λ v. Sym v h.0) (sym f.1) h.1, pr.over_none at h.2)
        ]
      ];
      late = λ f. absurd (o.opt_fails rules start nodes bodies ranks x sound n k at has f);
    }
      where
        l : L (Eval n p) (Eval k p)
        l = (node.Opt k, at, refl)

        only : (c : MatchTask) → L (Eval n p) c → c ≡ Eval k p
        only c h = leads_as n p (node.Opt k) at c h

        takes : {q : ℕ} → NT n p q → NT k p q ⊎ (NF k p × (q ≡ p))
        takes t = o.opt_takes rules start nodes bodies ranks x sound n k at has t

        flat : Flat (Eval k p) → Flat (Eval n p)
        flat f = under_flat n k p r (node.Opt k) at l only kid f

        by : (b : ℕ) → Sym p b → (v : Option ByteVerdict) → V b k ≡ v → Given n p (of_opt v)
        by b s None is = tt
        by b s (Some Fails) is =
            let g = subst (Given k p) is (kid.gives b s) in
            (o.opt_none rules start nodes bodies ranks x sound n k at has g.0, flat g.1)
        by b s (Some Stays) is =
            let g = subst (Given k p) is (kid.gives b s) in
            (o.opt_some rules start nodes bodies ranks x sound n k at has g.0, flat g.1)
        by b s (Some Takes) is =
            let g = subst (Given k p) is (kid.gives b s) in
            ((g.0.0, o.opt_some rules start nodes bodies ranks x sound n k at has g.0.1), flat g.1)

    -- each byte decides the operand of a predicate
    pub ahead_seen : (shape : Shape) (k : ℕ) → At n shape → pr.IsAhead nodes bodies shape k
        → ((c : MatchTask) → L (Eval n p) c → c ≡ Eval k p) → L (Eval n p) (Eval k p)
        → ((m : ℕ) → pr.Near nodes bodies k m → pr.Near nodes bodies n m) → pr.Empty nodes bodies n
        → ((q : ℕ) → NT n p q → q ≡ p)
        → ((b : ℕ) → Sym p b → (v : Option ByteVerdict) → V b k ≡ v → Given k p v → Given n p (V b n))
        → Seen k p → Seen n p
    ahead_seen shape k at ahead only l near empty here by kid = record {
      near = under_near n k p r shape at l only kid near;
      gives = λ b s. by b s (V b k) refl (kid.gives b s);
      empty = λ t. empty;
      last = under_last n k p r shape at l only kid
          (λ m q t h. pr.last_empty empty
          (near m (kid.near m (subst (λ v. B (Eval k p) (Eval m v)) (here q t) h))))
          (λ t. empty);
      clean = λ q t. inl (λ u h. let is = flat u h in let at_p = here q t in omega (arith, is, at_p));
      late = λ f. inl flat;
    }
      where
        kid_flat : (o : Option ℕ) → slice_get x p ≡ o → Flat (Eval k p)
        kid_flat None is = flat_at_end k p (reach_edge r l) is
        kid_flat (Some b) is = of_given (V b k) refl (kid.gives b is)
          where
            of_given : (v : Option ByteVerdict) → V b k ≡ v → Given k p v → Flat (Eval k p)
            of_given None is g = absurd ((good.at b).settled.ahead n k shape at ahead is)
            of_given (Some Fails) is g = g.1
            of_given (Some Stays) is g = g.1
            of_given (Some Takes) is g = g.1

        flat : Flat (Eval n p)
        flat = under_flat n k p r shape at l only kid (kid_flat (slice_get x p) refl)

    pub and_seen : (k : ℕ) → At n (node.And k) → Seen k p → Seen n p
    and_seen k at kid = ahead_seen (node.And k) k at (inl refl) (λ c h. leads_as n p (node.And k) at c h)
        (node.And k, at, refl) (λ m h. pr.near_and at h) (pr.empty_and at)
        (λ q t. o.and_takes rules start nodes bodies ranks x sound n k at has t)
        (λ b s v is g. subst (Given n p) (sym ((good.at b).decided n (node.And k) at ∙ ap of_and is)) (by v g))
        kid
      where
        flat : Flat (Eval k p) → Flat (Eval n p)
        flat f = under_flat n k p r (node.And k) at (node.And k, at, refl) (λ c h. leads_as n p (node.And k) at c h)
            kid f

        by : (v : Option ByteVerdict) → Given k p v → Given n p (of_and v)
        by None g = tt
        by (Some Fails) g = (o.and_none rules start nodes bodies ranks x sound n k at has g.0, flat g.1)
        by (Some Stays) g = (o.and_some rules start nodes bodies ranks x sound n k at has g.0, flat g.1)
        by (Some Takes) g = (o.and_some rules start nodes bodies ranks x sound n k at has g.0.1, flat g.1)

    pub not_seen : (k : ℕ) → At n (node.Not k) → Seen k p → Seen n p
    not_seen k at kid = ahead_seen (node.Not k) k at (inr refl) (λ c h. leads_as n p (node.Not k) at c h)
        (node.Not k, at, refl) (λ m h. pr.near_not at h) (pr.empty_not at)
        (λ q t. o.not_takes rules start nodes bodies ranks x sound n k at has t)
        (λ b s v is g. subst (Given n p) (sym ((good.at b).decided n (node.Not k) at ∙ ap of_not is)) (by v g))
        kid
      where
        flat : Flat (Eval k p) → Flat (Eval n p)
        flat f = under_flat n k p r (node.Not k) at (node.Not k, at, refl) (λ c h. leads_as n p (node.Not k) at c h)
            kid f

        by : (v : Option ByteVerdict) → Given k p v → Given n p (of_not v)
        by None g = tt
        by (Some Fails) g = (o.not_some rules start nodes bodies ranks x sound n k at has g.0, flat g.1)
        by (Some Stays) g = (o.not_none rules start nodes bodies ranks x sound n k at has g.0, flat g.1)
        by (Some Takes) g = (o.not_none rules start nodes bodies ranks x sound n k at has g.0.1, flat g.1)
