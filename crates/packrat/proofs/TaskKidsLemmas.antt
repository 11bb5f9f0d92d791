-- The list of where a task leads has those to which it leads, once each.
-- Serves: implied_cells
use Rattle.std.proofs.Common.{◌≡◌, ◌⊎◌, inl, inr, ℕ, zero, suc, List, [], ◌∷◌, Some, refl, sym, subst, arith}
use Rattle.std.specs.Prelude.{slice_get}
use Rattle.pegread.specs.Pattern.{Rule}
use Rattle.pegnodes.specs.Nodes as node
use Rattle.pegnodes.specs.Nodes.{Shape}
use Rattle.gramcheck.specs.Sound.{IsRanked}
use Rattle.pegnodes.proofs.HasShapeLemmas.{has_shape}
use Rattle.pegmatch.specs.KeptEvents.{SpellsSome}
use Rattle.pegmatch.specs.Visits.{NodeTakes, NodeFails}
use Rattle.pegmatch.proofs.NodeGivesLemmas.{same_node}
use Rattle.memo.specs.Parts.{IsIn, in_here, in_later, Distinct, distinct_none, distinct_more}
use Rattle.memo.specs.declared.task.MatchTask.{MatchTask}
use Rattle.memo.specs.declared.task.MatchTask.TheVariants.{Eval, Tail}
use Rattle.pegnodes.specs.NodeWays.{Way, Leaf, Body, Members, Alternatives, Iterations, Operand, way_of}
use Rattle.packrat.specs.MatchTasks.{LeadsBy, TailLeadsBy, Leads, KidsBy, TailKidsBy, Kids}

none_in : {V : Type 0} {b : V} → IsIn b [] → ⊥
none_in i = elim i [ ]

pub one_in : {V : Type 0} {b a : V} → IsIn b (a ∷ []) → b ≡ a
one_in in_here = refl
one_in (in_later i) = elim i [ ]

pub two_in : {V : Type 0} {b a c : V} → IsIn b (a ∷ (c ∷ [])) → (b ≡ a) ⊎ (b ≡ c)
two_in in_here = inl refl
two_in (in_later i) = inr (one_in i)

here_in : {V : Type 0} {a b : V} (ys : List V) → b ≡ a → IsIn b (a ∷ ys)
here_in {a = a} ys is = subst (λ v. IsIn v (a ∷ ys)) (sym is) in_here

module _ (rules : List Rule) (start : ℕ) (nodes : List Shape) (bodies ranks x : List ℕ)
    (sound : IsRanked rules start nodes bodies ranks) where
  abbrev NT : ℕ → ℕ → ℕ → Type 0
  NT k p q = NodeTakes rules nodes bodies x k p q

  abbrev NF : ℕ → ℕ → Type 0
  NF k p = NodeFails rules nodes bodies x k p

  pub takes_same : {k p q r : ℕ} → NT k p q → NT k p r → q ≡ r
  takes_same t u = let h = (same_node rules nodes sound.defined bodies x t.gives u.gives).outcome in cc

  pub takes_fails : {k p q : ℕ} → NT k p q → NF k p → ⊥
  takes_fails t f = let h = (same_node rules nodes sound.defined bodies x t.gives f.gives).outcome in cc

  abbrev LB : Way → ℕ → ℕ → MatchTask → Type 0
  LB w n p b = LeadsBy rules nodes bodies x w n p b

  abbrev RB : Way → ℕ → ℕ → ℕ → MatchTask → Type 0
  RB w n i p b = TailLeadsBy rules nodes bodies x w n i p b

  abbrev KB : Way → ℕ → ℕ → List MatchTask → Type 0
  KB w n p ks = KidsBy rules nodes bodies x w n p ks

  abbrev RK : Way → ℕ → ℕ → ℕ → List MatchTask → Type 0
  RK w n i p ks = TailKidsBy rules nodes bodies x w n i p ks

  module _ (b : MatchTask) (ks : List MatchTask) where
    at_one : (a : MatchTask) → ks ≡ a ∷ [] → IsIn b ks → b ≡ a
    at_one a is i = one_in (subst (IsIn b) is i)

    at_two : (a c : MatchTask) → ks ≡ a ∷ (c ∷ []) → IsIn b ks → (b ≡ a) ⊎ (b ≡ c)
    at_two a c is i = two_in (subst (IsIn b) is i)

    at_none : ks ≡ [] → IsIn b ks → ⊥
    at_none is i = none_in (subst (IsIn b) is i)

    leads_by : (w : Way) (n p : ℕ) → KB w n p ks → IsIn b ks → LB w n p b
    leads_by Leaf n p k i = at_none k i
    leads_by (Body id) n p k i = (k.0, k.1, at_one (Eval k.0 p) k.2 i)
    leads_by (Members ms) n p k i = elim k [
      | inl e ↦ absurd (at_none e.1 i)
      | inr e ↦ (e.0, e.1, at_one (Tail n zero p) e.2 i)
    ]
    leads_by (Alternatives ms) n p k i = elim k [
      | inl e ↦ absurd (at_none e.1 i)
      | inr e ↦ (e.0, e.1, at_one (Tail n zero p) e.2 i)
    ]
    leads_by (Iterations k s) n p h i = elim h [
      | inl e ↦ inl (at_one (Eval k p) e.1 i)
      | inr e ↦ elim (at_two (Eval k p) (Eval s e.0) e.2 i) [ inl l ↦ inl l | inr r ↦ inr (e.0, e.1, r) ]
    ]
    leads_by (Operand k) n p h i = at_one (Eval k p) h i

    rest_leads_by : (w : Way) (n i p : ℕ) → RK w n i p ks → IsIn b ks → RB w n i p b
    rest_leads_by Leaf n i p k h = absurd k
    rest_leads_by (Body id) n i p k h = absurd k
    rest_leads_by (Members ms) n i p k h = (
      k.0,
      k.1,
      elim k.2 [
        | inl e ↦ inl (at_one (Eval k.0 p) e.1 h)
        | inr e ↦ elim (at_two (Eval k.0 p) (Tail n (suc i) e.1) e.4 h) [
          | inl l ↦ inl l
          | inr r ↦ inr (e.0, e.1, e.2, e.3, r)
        ]
      ],
    )
    rest_leads_by (Alternatives ms) n i p k h = (
      k.0,
      k.1,
      elim k.2 [
        | inl e ↦ inl (at_one (Eval k.0 p) e.1 h)
        | inr e ↦ elim (at_two (Eval k.0 p) (Tail n (suc i) p) e.3 h) [
          | inl l ↦ inl l
          | inr r ↦ inr (e.0, e.1, e.2, r)
        ]
      ],
    )
    rest_leads_by (Iterations k s) n i p h j = absurd h
    rest_leads_by (Operand k) n i p h j = absurd h

    in_one : (a : MatchTask) → ks ≡ a ∷ [] → b ≡ a → IsIn b ks
    in_one a is e = subst (IsIn b) (sym is) (here_in [] e)

    in_first : (a c : MatchTask) → ks ≡ a ∷ (c ∷ []) → b ≡ a → IsIn b ks
    in_first a c is e = subst (IsIn b) (sym is) (here_in (c ∷ []) e)

    in_second : (a c : MatchTask) → ks ≡ a ∷ (c ∷ []) → b ≡ c → IsIn b ks
    in_second a c is e = subst (IsIn b) (sym is) (in_later (here_in [] e))

    listed_by : (w : Way) (n p : ℕ) → KB w n p ks → LB w n p b → IsIn b ks
    listed_by Leaf n p k l = absurd l
    listed_by (Body id) n p k l =
        let is : l.0 ≡ k.0 = cc (l.1, k.1) in
        in_one (Eval k.0 p) k.2 (subst (λ v. b ≡ Eval v p) is l.2)
    listed_by (Members ms) n p k l = elim k [
      | inl e ↦ absurd (cc (e.0, l.1))
      | inr e ↦ in_one (Tail n zero p) e.2 l.2
    ]
    listed_by (Alternatives ms) n p k l = elim k [
      | inl e ↦ absurd (cc (e.0, l.1))
      | inr e ↦ in_one (Tail n zero p) e.2 l.2
    ]
    listed_by (Iterations k s) n p h l = elim h [
      | inl e ↦ elim l [
        | inl a ↦ in_one (Eval k p) e.1 a
        | inr a ↦ absurd (takes_fails a.1 e.0)
      ]
      | inr e ↦ elim l [
        | inl a ↦ in_first (Eval k p) (Eval s e.0) e.2 a
        | inr a ↦ in_second (Eval k p) (Eval s e.0) e.2 (subst (λ v. b ≡ Eval s v) (takes_same a.1 e.1) a.2)
      ]
    ]
    listed_by (Operand k) n p h l = in_one (Eval k p) h l

    rest_listed_by : (w : Way) (n i p : ℕ) → RK w n i p ks → RB w n i p b → IsIn b ks
    rest_listed_by Leaf n i p k l = absurd k
    rest_listed_by (Body id) n i p k l = absurd k
    rest_listed_by (Members ms) n i p k l =
        let is : l.0 ≡ k.0 = cc (l.1, k.1) in
        elim k.2 [
          | inl e ↦ elim l.2 [
            | inl a ↦ in_one (Eval k.0 p) e.1 (subst (λ v. b ≡ Eval v p) is a)
            | inr a ↦ elim e.0 [
              | inl f ↦ absurd (takes_fails (subst (λ v. NT v p a.1) is a.3) f)
              | inr f ↦ absurd (cc (f, a.2))
            ]
          ]
          | inr e ↦ elim l.2 [
            | inl a ↦ in_first (Eval k.0 p) (Tail n (suc i) e.1) e.4 (subst (λ v. b ≡ Eval v p) is a)
            | inr a ↦ in_second (Eval k.0 p) (Tail n (suc i) e.1) e.4
                (subst (λ v. b ≡ Tail n (suc i) v) (takes_same (subst (λ v. NT v p a.1) is a.3) e.3) a.4)
          ]
        ]
    rest_listed_by (Alternatives ms) n i p k l =
        let is : l.0 ≡ k.0 = cc (l.1, k.1) in
        elim k.2 [
          | inl e ↦ elim l.2 [
            | inl a ↦ in_one (Eval k.0 p) e.1 (subst (λ v. b ≡ Eval v p) is a)
            | inr a ↦ elim e.0 [
              | inl f ↦ absurd (takes_fails f.1 (subst (λ v. NF v p) is a.2))
              | inr f ↦ absurd (cc (f, a.1))
            ]
          ]
          | inr e ↦ elim l.2 [
            | inl a ↦ in_first (Eval k.0 p) (Tail n (suc i) p) e.3 (subst (λ v. b ≡ Eval v p) is a)
            | inr a ↦ in_second (Eval k.0 p) (Tail n (suc i) p) e.3 a.3
          ]
        ]
    rest_listed_by (Iterations k s) n i p h l = absurd h
    rest_listed_by (Operand k) n i p h l = absurd h

  pub kid_led_to : (a b : MatchTask) (ks : List MatchTask) → Kids rules nodes bodies x a ks → IsIn b ks
      → Leads rules nodes bodies x a b
  kid_led_to (Eval n p) b ks k i = (k.0, k.1, leads_by b ks (way_of n k.0) n p k.2 i)
  kid_led_to (Tail n i p) b ks k j = (k.0, k.1, rest_leads_by b ks (way_of n k.0) n i p k.2 j)

  pub led_to_kid : (a b : MatchTask) (ks : List MatchTask) → Kids rules nodes bodies x a ks
      → Leads rules nodes bodies x a b
      → IsIn b ks
  led_to_kid (Eval n p) b ks k l =
      let is : l.0 ≡ k.0 = cc (l.1, k.1) in
      listed_by b ks (way_of n k.0) n p k.2 (subst (λ v. LB (way_of n v) n p b) is l.2)
  led_to_kid (Tail n i p) b ks k l =
      let is : l.0 ≡ k.0 = cc (l.1, k.1) in
      rest_listed_by b ks (way_of n k.0) n i p k.2 (subst (λ v. RB (way_of n v) n i p b) is l.2)

  -- distinct
  pub distinct_one : (a : MatchTask) (ks : List MatchTask) → ks ≡ a ∷ [] → Distinct ks
  distinct_one a ks is = subst Distinct (sym is) (distinct_more (λ i. none_in i) distinct_none)

  pub distinct_two : (a c : MatchTask) (ks : List MatchTask) → (a ≡ c → ⊥) → ks ≡ a ∷ (c ∷ []) → Distinct ks
  distinct_two a c ks apart is = subst Distinct (sym is)
      (distinct_more (λ i. apart (one_in i)) (distinct_more (λ i. none_in i) distinct_none))

  pub distinct_no : (ks : List MatchTask) → ks ≡ [] → Distinct ks
  distinct_no ks is = subst Distinct (sym is) distinct_none

  distinct_by : (w : Way) (n p : ℕ) (ks : List MatchTask) → ((k s : ℕ) → w ≡ Iterations k s → k ≡ s → ⊥) → KB w n p ks
      → Distinct ks
  distinct_by Leaf n p ks apart k = distinct_no ks k
  distinct_by (Body id) n p ks apart k = distinct_one (Eval k.0 p) ks k.2
  distinct_by (Members ms) n p ks apart k = elim k [
    | inl e ↦ distinct_no ks e.1
    | inr e ↦ distinct_one (Tail n zero p) ks e.2
  ]
  distinct_by (Alternatives ms) n p ks apart k = elim k [
    | inl e ↦ distinct_no ks e.1
    | inr e ↦ distinct_one (Tail n zero p) ks e.2
  ]
  distinct_by (Iterations k s) n p ks apart h = elim h [
    | inl e ↦ distinct_one (Eval k p) ks e.1
    | inr e ↦ distinct_two (Eval k p) (Eval s e.0) ks (λ is. apart k s refl (cc is)) e.2
  ]
  distinct_by (Operand k) n p ks apart h = distinct_one (Eval k p) ks h

  rest_distinct_by : (w : Way) (n i p : ℕ) (ks : List MatchTask) → RK w n i p ks → Distinct ks
  rest_distinct_by Leaf n i p ks k = absurd k
  rest_distinct_by (Body id) n i p ks k = absurd k
  rest_distinct_by (Members ms) n i p ks k = elim k.2 [
    | inl e ↦ distinct_one (Eval k.0 p) ks e.1
    | inr e ↦ distinct_two (Eval k.0 p) (Tail n (suc i) e.1) ks (λ is. absurd (cc is)) e.4
  ]
  rest_distinct_by (Alternatives ms) n i p ks k = elim k.2 [
    | inl e ↦ distinct_one (Eval k.0 p) ks e.1
    | inr e ↦ distinct_two (Eval k.0 p) (Tail n (suc i) p) ks (λ is. absurd (cc is)) e.3
  ]
  rest_distinct_by (Iterations k s) n i p ks h = absurd h
  rest_distinct_by (Operand k) n i p ks h = absurd h

  -- an operand is no repetition of itself
  iterations_apart : (n : ℕ) (shape : Shape) → SpellsSome rules nodes n → slice_get nodes n ≡ Some shape → (k s : ℕ)
      → way_of n shape ≡ Iterations k s → k ≡ s → ⊥
  iterations_apart n node.Any sp at k s is e = absurd (cc is)
  iterations_apart n (node.Bytes h) sp at k s is e = absurd (cc is)
  iterations_apart n (node.Set h) sp at k s is e = absurd (cc is)
  iterations_apart n (node.Name h) sp at k s is e = absurd (cc is)
  iterations_apart n (node.Seq h) sp at k s is e = absurd (cc is)
  iterations_apart n (node.Choice h) sp at k s is e = absurd (cc is)
  iterations_apart n (node.Star h) sp at k s is e =
      let one : h ≡ k = cc is in
      let two : n ≡ s = cc is in
      let less = sound.built.after n h (node.Star h) at refl in
      absurd (omega arith)
  iterations_apart n (node.Plus h j) sp at k s is e =
      let one : h ≡ k = cc is in
      let two : j ≡ s = cc is in
      let like = has_shape rules nodes sp.1 (node.Plus h j) at in
      let less = sound.built.after j h (node.Star h) like.3 refl in
      absurd (omega arith)
  iterations_apart n (node.Opt h) sp at k s is e = absurd (cc is)
  iterations_apart n (node.And h) sp at k s is e = absurd (cc is)
  iterations_apart n (node.Not h) sp at k s is e = absurd (cc is)
  iterations_apart n (node.Act h) sp at k s is e = absurd (cc is)
  iterations_apart n node.Open sp at k s is e = absurd (cc is)
  iterations_apart n node.Close sp at k s is e = absurd (cc is)

  pub eval_distinct : (n p : ℕ) (ks : List MatchTask) → SpellsSome rules nodes n
      → Kids rules nodes bodies x (Eval n p) ks
      → Distinct ks
  eval_distinct n p ks s k = distinct_by (way_of n k.0) n p ks (iterations_apart n k.0 s k.1) k.2

  pub rest_distinct : (n i p : ℕ) (ks : List MatchTask) → Kids rules nodes bodies x (Tail n i p) ks → Distinct ks
  rest_distinct n i p ks k = rest_distinct_by (way_of n k.0) n i p ks k.2
