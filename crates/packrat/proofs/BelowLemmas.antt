-- What lies below a task, and when each task has one asker.
-- Serves: Packrat::match_unit
use Rattle.std.proofs.Common.{◌≡◌, ◌⊎◌, inl, inr, ℕ, zero, suc, ◌≤◌, List, length, Some, None, refl, sym, subst, arith}
use Rattle.std.proofs.lemmas.Option.{slice_get_cases}
use Rattle.std.specs.Prelude.{slice_get}
use Rattle.pegread.specs.Pattern.{Rule}
use Rattle.pegnodes.specs.Nodes as node
use Rattle.pegnodes.specs.Nodes.{Shape}
use Rattle.gramcheck.specs.Sound.{IsRanked}
use Rattle.pegmatch.specs.Visits.{NodeTakes, NodeFails}
use Rattle.pegmatch.proofs.AsksLemmas.{goes_onward}
use Rattle.memo.specs.KeyLog.{position_of}
use Rattle.memo.specs.Parts.{Reach, reach_root, reach_edge}
use Rattle.memo.specs.Run.{Ends, ends}
use Rattle.memo.specs.declared.task.MatchTask.{MatchTask}
use Rattle.memo.specs.declared.task.MatchTask.TheVariants.{Eval, Tail}
use Rattle.pegnodes.specs.NodeWays.{Way, Leaf, Body, Members, Alternatives, Iterations, Operand, way_of}
use Rattle.packrat.specs.MatchTasks.{LeadsBy, TailLeadsBy, Leads}
use Rattle.packrat.proofs.EndsLemmas.{reached_ends}
use Rattle.packrat.proofs.TaskKidsLemmas.{takes_same}

module _ (rules : List Rule) (start : ℕ) (nodes : List Shape) (bodies ranks x : List ℕ)
    (sound : IsRanked rules start nodes bodies ranks) (root : ℕ) (is_root : slice_get bodies start ≡ Some root) where
  abbrev pub L : MatchTask → MatchTask → Type 0
  L a b = Leads rules nodes bodies x a b

  abbrev pub R : MatchTask → Type 0
  R a = Reach MatchTask (Leads rules nodes bodies x) (Eval root 0) a

  -- t is a, or a leads to it in steps
  abbrev pub Below : MatchTask → MatchTask → Type 0
  Below a t = Reach MatchTask (Leads rules nodes bodies x) a t

  -- all below a stands at its position
  abbrev pub Flat : MatchTask → Type 0
  Flat a = (t : MatchTask) → Below a t → position_of t ≡ position_of a

  -- all below a stands at q or before
  abbrev pub UpTo : MatchTask → ℕ → Type 0
  UpTo a q = (t : MatchTask) → Below a t → position_of t ≤ q

  abbrev LB : Way → ℕ → ℕ → MatchTask → Type 0
  LB w n p b = LeadsBy rules nodes bodies x w n p b

  abbrev RB : Way → ℕ → ℕ → ℕ → MatchTask → Type 0
  RB w n i p b = TailLeadsBy rules nodes bodies x w n i p b

  abbrev NT : ℕ → ℕ → ℕ → Type 0
  NT m p q = NodeTakes rules nodes bodies x m p q

  abbrev NF : ℕ → ℕ → Type 0
  NF m p = NodeFails rules nodes bodies x m p

  abbrev E : MatchTask → Type 0
  E a = Ends MatchTask (Leads rules nodes bodies x) a

  -- steps
  pub below_on : {a b t : MatchTask} → Below a b → Below b t → Below a t
  below_on r reach_root = r
  below_on r (reach_edge s l) = reach_edge (below_on r s) l

  pub below_reached : {a t : MatchTask} → R a → Below a t → R t
  below_reached r s = below_on r s

  pub below_step : {a c t : MatchTask} → L a c → Below c t → Below a t
  below_step l s = below_on (reach_edge reach_root l) s

  first_edge : {a b : MatchTask} → Below a b → (t : MatchTask) → L b t → (c : MatchTask) × L a c × Below c t
  first_edge reach_root t l = (t, l, reach_root)
  first_edge (reach_edge {b = b} s e) t l = let f = first_edge s b e in (f.0, f.1, reach_edge f.2 l)

  pub first_step : {a t : MatchTask} → Below a t → (t ≡ a) ⊎ ((c : MatchTask) × L a c × Below c t)
  first_step reach_root = inl refl
  first_step (reach_edge {b = b} s e) = inr (first_edge s b e)

  -- a position of the input from p on
  record IsOnward (p q : ℕ) : Type 0 where
    pub low : p ≤ q
    pub high : q ≤ length x

  module _ (p : ℕ) (le : p ≤ length x) where
    stays_there : IsOnward p p
    stays_there = record { low = omega arith; high = le }

    takes_onward : (k q : ℕ) → NT k p q → IsOnward p q
    takes_onward k q t =
        let on = goes_onward rules start nodes bodies ranks x sound k p q le t in
        record { low = on.low; high = on.high }

    onward_as : (b a : MatchTask) → b ≡ a → IsOnward p (position_of a) → IsOnward p (position_of b)
    onward_as b a is h = subst (λ v. IsOnward p (position_of v)) (sym is) h

    onward_by : (w : Way) (n : ℕ) (b : MatchTask) → LB w n p b → IsOnward p (position_of b)
    onward_by Leaf n b l = absurd l
    onward_by (Body id) n b l = onward_as b (Eval l.0 p) l.2 stays_there
    onward_by (Members ms) n b l = onward_as b (Tail n zero p) l.2 stays_there
    onward_by (Alternatives ms) n b l = onward_as b (Tail n zero p) l.2 stays_there
    onward_by (Iterations k s) n b l = elim l [
      | inl e ↦ onward_as b (Eval k p) e stays_there
      | inr e ↦ onward_as b (Eval s e.0) e.2 (takes_onward k e.0 e.1)
    ]
    onward_by (Operand k) n b l = onward_as b (Eval k p) l stays_there

    rest_onward_by : (w : Way) (n i : ℕ) (b : MatchTask) → RB w n i p b → IsOnward p (position_of b)
    rest_onward_by Leaf n i b l = absurd l
    rest_onward_by (Body id) n i b l = absurd l
    rest_onward_by (Members ms) n i b l = elim l.2 [
      | inl e ↦ onward_as b (Eval l.0 p) e stays_there
      | inr e ↦ onward_as b (Tail n (suc i) e.1) e.4 (takes_onward l.0 e.1 e.3)
    ]
    rest_onward_by (Alternatives ms) n i b l = elim l.2 [
      | inl e ↦ onward_as b (Eval l.0 p) e stays_there
      | inr e ↦ onward_as b (Tail n (suc i) p) e.3 stays_there
    ]
    rest_onward_by (Iterations k s) n i b l = absurd l
    rest_onward_by (Operand k) n i b l = absurd l

  next_onward : (a b : MatchTask) → position_of a ≤ length x → L a b → IsOnward (position_of a) (position_of b)
  next_onward (Eval n p) b le l = onward_by p le (way_of n l.0) n b l.2
  next_onward (Tail n i p) b le l = rest_onward_by p le (way_of n l.0) n i b l.2

  -- what is reached stands in the input, or at its end
  pub is_inside : {a : MatchTask} → R a → position_of a ≤ length x
  is_inside reach_root = omega arith
  is_inside (reach_edge {a = a} {b = b} r l) = (next_onward a b (is_inside r) l).high

  pub leads_forward : {a : MatchTask} → R a → (b : MatchTask) → L a b → position_of a ≤ position_of b
  leads_forward {a = a} r b l = (next_onward a b (is_inside r) l).low

  pub below_forward : {a t : MatchTask} → R a → Below a t → position_of a ≤ position_of t
  below_forward r reach_root = omega arith
  below_forward r (reach_edge {b = b} s l) =
      let low = below_forward r s in
      let next = leads_forward (below_on r s) b l in
      omega (arith, low, next)

  past_end : (q : ℕ) → slice_get x q ≡ None → length x ≤ q
  past_end q none = elim (slice_get_cases x q).1 [
    | inl h ↦ absurd (cc (h.2, none))
    | inr h ↦ h.0
  ]

  pub at_end : {a : MatchTask} → R a → (q : ℕ) → slice_get x q ≡ None → UpTo a q
  at_end r q none t s =
      let high = is_inside (below_on r s) in
      let end = past_end q none in
      omega (arith, high, end)

  pub flat_at_end : {a : MatchTask} → R a → slice_get x (position_of a) ≡ None → Flat a
  flat_at_end {a = a} r none t s =
      let high = at_end r (position_of a) none t s in
      let low = below_forward r s in
      omega (arith, high, low)

  -- the member from which a tail goes on
  pub record TailMember (n i p : ℕ) : Type 0 where
    pub shape : Shape
    pub at : slice_get nodes n ≡ Some shape
    pub members : List ℕ
    pub member : ℕ
    pub of_shape : (shape ≡ node.Seq members) ⊎ (shape ≡ node.Choice members)
    pub there : slice_get members i ≡ Some member
    pub leads : L (Tail n i p) (Eval member p)

  abbrev HasMember : MatchTask → Type 0
  HasMember (Eval n p) = Unit {0}
  HasMember (Tail n i p) = TailMember n i p

  module _ (n i p m : ℕ) (ms : List ℕ) (there : slice_get ms i ≡ Some m) where
    seq_member : slice_get nodes n ≡ Some (node.Seq ms) → TailMember n i p
    seq_member at =
        record {
          shape = node.Seq ms;
          at = at;
          members = ms;
          member = m;
          of_shape = inl refl;
          there = there;
          leads = (node.Seq ms, at, (m, there, inl refl));
        }

    choice_member : slice_get nodes n ≡ Some (node.Choice ms) → TailMember n i p
    choice_member at =
        record {
          shape = node.Choice ms;
          at = at;
          members = ms;
          member = m;
          of_shape = inr refl;
          there = there;
          leads = (node.Choice ms, at, (m, there, inl refl));
        }

  member_as : (b a : MatchTask) → b ≡ a → HasMember a → HasMember b
  member_as b a is h = subst HasMember (sym is) h

  member_by : (n p : ℕ) (b : MatchTask) (shape : Shape) → slice_get nodes n ≡ Some shape → LB (way_of n shape) n p b
      → HasMember b
  member_by n p b (node.Name id) at l = member_as b (Eval l.0 p) l.2 tt
  member_by n p b (node.Seq ms) at l = member_as b (Tail n zero p) l.2 (seq_member n zero p l.0 ms l.1 at)
  member_by n p b (node.Choice ms) at l = member_as b (Tail n zero p) l.2 (choice_member n zero p l.0 ms l.1 at)
  member_by n p b (node.Star k) at l = elim l [
    | inl e ↦ member_as b (Eval k p) e tt
    | inr e ↦ member_as b (Eval n e.0) e.2 tt
  ]
  member_by n p b (node.Plus k s) at l = elim l [
    | inl e ↦ member_as b (Eval k p) e tt
    | inr e ↦ member_as b (Eval s e.0) e.2 tt
  ]
  member_by n p b (node.Opt k) at l = member_as b (Eval k p) l tt
  member_by n p b (node.And k) at l = member_as b (Eval k p) l tt
  member_by n p b (node.Not k) at l = member_as b (Eval k p) l tt
  member_by n p b shape at l = absurd l

  rest_member_by : (n i p : ℕ) (b : MatchTask) (shape : Shape) → slice_get nodes n ≡ Some shape
      → RB (way_of n shape) n i p b → HasMember b
  rest_member_by n i p b (node.Seq ms) at l = elim l.2 [
    | inl e ↦ member_as b (Eval l.0 p) e tt
    | inr e ↦ member_as b (Tail n (suc i) e.1) e.4 (seq_member n (suc i) e.1 e.0 ms e.2 at)
  ]
  rest_member_by n i p b (node.Choice ms) at l = elim l.2 [
    | inl e ↦ member_as b (Eval l.0 p) e tt
    | inr e ↦ member_as b (Tail n (suc i) p) e.3 (choice_member n (suc i) p e.0 ms e.1 at)
  ]
  rest_member_by n i p b shape at l = absurd l

  led_member : (a b : MatchTask) → L a b → HasMember b
  led_member (Eval n p) b l = member_by n p b l.0 l.1 l.2
  led_member (Tail n i p) b l = rest_member_by n i p b l.0 l.1 l.2

  reached_member : {a : MatchTask} → R a → HasMember a
  reached_member reach_root = tt
  reached_member (reach_edge {a = a} {b = b} r l) = led_member a b l

  pub tail_member : {n i p : ℕ} → R (Tail n i p) → TailMember n i p
  tail_member r = reached_member r

  -- the first leads to the second and then to the third
  pub data Forks : MatchTask → MatchTask → MatchTask → Type 0 where
    forks_members : {n i p q m k : ℕ} {ms : List ℕ} → slice_get nodes n ≡ Some (node.Seq ms)
        → slice_get ms i ≡ Some m → slice_get ms (suc i) ≡ Some k → NodeTakes rules nodes bodies x m p q
        → Forks (Tail n i p) (Eval m p) (Tail n (suc i) q)
    forks_alternatives : {n i p m k : ℕ} {ms : List ℕ} → slice_get nodes n ≡ Some (node.Choice ms)
        → slice_get ms i ≡ Some m → slice_get ms (suc i) ≡ Some k → NodeFails rules nodes bodies x m p
        → Forks (Tail n i p) (Eval m p) (Tail n (suc i) p)
    forks_iterations : {n p q k s : ℕ} {shape : Shape} → slice_get nodes n ≡ Some shape
        → way_of n shape ≡ Iterations k s → NodeTakes rules nodes bodies x k p q
        → Forks (Eval n p) (Eval k p) (Eval s q)

  same_take : {k p q r : ℕ} → NT k p q → NT k p r → q ≡ r
  same_take t u = takes_same rules start nodes bodies ranks x sound t u

  module _ (c d : MatchTask) where
    abbrev Fork : MatchTask → Type 0
    Fork a = (c ≡ d) ⊎ (Forks a c d ⊎ Forks a d c)

    fork_first : (a e f : MatchTask) → c ≡ e → d ≡ f → Forks a e f → Fork a
    fork_first a e f ce df h =
        inr (inl (subst (λ v. Forks a v d) (sym ce) (subst (λ v. Forks a e v) (sym df) h)))

    fork_second : (a e f : MatchTask) → d ≡ e → c ≡ f → Forks a e f → Fork a
    fork_second a e f de cf h =
        inr (inr (subst (λ v. Forks a v c) (sym de) (subst (λ v. Forks a e v) (sym cf) h)))

    fork_by : (n p : ℕ) (shape : Shape) → slice_get nodes n ≡ Some shape → (w : Way) → way_of n shape ≡ w
        → LB w n p c → LB w n p d → Fork (Eval n p)
    fork_by n p shape at Leaf is l k = absurd l
    fork_by n p shape at (Body id) is l k =
        let same : l.0 ≡ k.0 = cc (l.1, k.1) in
        inl (cc (l.2, k.2, same))
    fork_by n p shape at (Members ms) is l k = inl (cc (l.2, k.2))
    fork_by n p shape at (Alternatives ms) is l k = inl (cc (l.2, k.2))
    fork_by n p shape at (Iterations m s) is l k = elim l [
      | inl e ↦ elim k [
        | inl f ↦ inl (cc (e, f))
        | inr f ↦ fork_first (Eval n p) (Eval m p) (Eval s f.0) e f.2 (forks_iterations at is f.1)
      ]
      | inr e ↦ elim k [
        | inl f ↦ fork_second (Eval n p) (Eval m p) (Eval s e.0) f e.2 (forks_iterations at is e.1)
        | inr f ↦ let same = same_take e.1 f.1 in inl (cc (e.2, f.2, same))
      ]
    ]
    fork_by n p shape at (Operand m) is l k = inl (cc (l, k))

    rest_fork_by : (n i p : ℕ) (shape : Shape) → slice_get nodes n ≡ Some shape → RB (way_of n shape) n i p c
        → RB (way_of n shape) n i p d → Fork (Tail n i p)
    rest_fork_by n i p (node.Seq ms) at l k =
        let same : k.0 ≡ l.0 = cc (l.1, k.1) in
        elim l.2 [
          | inl e ↦ elim k.2 [
            | inl f ↦ inl (cc (e, f, same))
            | inr f ↦ fork_first (Tail n i p) (Eval l.0 p) (Tail n (suc i) f.1) e f.4
                (forks_members at l.1 f.2 (subst (λ v. NT v p f.1) same f.3))
          ]
          | inr e ↦ elim k.2 [
            | inl f ↦ fork_second (Tail n i p) (Eval k.0 p) (Tail n (suc i) e.1) f e.4
                (forks_members at k.1 e.2 (subst (λ v. NT v p e.1) (sym same) e.3))
            | inr f ↦
                let one = same_take e.3 (subst (λ v. NT v p f.1) same f.3) in
                inl (cc (e.4, f.4, one))
          ]
        ]
    rest_fork_by n i p (node.Choice ms) at l k =
        let same : k.0 ≡ l.0 = cc (l.1, k.1) in
        elim l.2 [
          | inl e ↦ elim k.2 [
            | inl f ↦ inl (cc (e, f, same))
            | inr f ↦ fork_first (Tail n i p) (Eval l.0 p) (Tail n (suc i) p) e f.3
                (forks_alternatives at l.1 f.1 (subst (λ v. NF v p) same f.2))
          ]
          | inr e ↦ elim k.2 [
            | inl f ↦ fork_second (Tail n i p) (Eval k.0 p) (Tail n (suc i) p) f e.3
                (forks_alternatives at k.1 e.1 (subst (λ v. NF v p) (sym same) e.2))
            | inr f ↦ inl (cc (e.3, f.3))
          ]
        ]
    rest_fork_by n i p shape at l k = absurd l

  -- a task leads to one task, or to two of which one is the first
  pub kids_fork : (a c d : MatchTask) → L a c → L a d → (c ≡ d) ⊎ (Forks a c d ⊎ Forks a d c)
  kids_fork (Eval n p) c d l k =
      let same : k.0 ≡ l.0 = cc (l.1, k.1) in
      fork_by c d n p l.0 l.1 (way_of n l.0) refl l.2 (subst (λ v. LB (way_of n v) n p d) same k.2)
  kids_fork (Tail n i p) c d l k =
      let same : k.0 ≡ l.0 = cc (l.1, k.1) in
      rest_fork_by c d n i p l.0 l.1 l.2 (subst (λ v. RB (way_of n v) n i p d) same k.2)

  no_cycle : {c : MatchTask} → E c → (b : MatchTask) → Below c b → L b c → ⊥
  no_cycle (ends {a = c} next) b s l = let f = first_edge s c l in no_cycle (next f.0 f.1) c f.2 f.1

  eval_below : (t : MatchTask) → R t → (l : ℕ) × (z : ℕ) × Below t (Eval l z)
  eval_below (Eval n p) r = (n, p, reach_root)
  eval_below (Tail n i p) r = let m = tail_member r in (m.member, p, reach_edge reach_root m.leads)

  module _ (apart : (a c d : MatchTask) → R a → Forks a c d → (l z : ℕ) → Below c (Eval l z) → Below d (Eval l z)
      → ⊥) where
    not_both : (v c d t : MatchTask) → R v → R t → Forks v c d ⊎ Forks v d c → Below c t → Below d t → ⊥
    not_both v c d t r reached forks s u =
        let e = eval_below t reached in
        elim forks [
          | inl f ↦ apart v c d r f e.0 e.1 (below_on s e.2) (below_on u e.2)
          | inr f ↦ apart v d c r f e.0 e.1 (below_on u e.2) (below_on s e.2)
        ]

    -- nothing below a kid of v leads to a kid of v
    not_again : (v k b c : MatchTask) → R v → E c → L v c → L v k → Below k b → L b c → ⊥
    not_again v k b c r end l h s e = elim (kids_fork v c k l h) [
      | inl is ↦ no_cycle end b (subst (λ u. Below u b) (sym is) s) e
      | inr forks ↦ not_both v c k c r (reach_edge r l) forks reach_root (reach_edge s e)
    ]

    one_below : {v : MatchTask} → E v → R v → (a b c : MatchTask) → Below v a → L a c → Below v b → L b c → a ≡ b
    one_below (ends {a = v} next) r a b c s l t h = elim (first_step s) [
      | inl is ↦ elim (first_step t) [
        | inl js ↦ cc (is, js)
        | inr g ↦
            let own : L v c = subst (λ u. L u c) is l in
            absurd (not_again v g.0 b c r (next c own) own g.1 g.2 h)
      ]
      | inr f ↦ elim (first_step t) [
        | inl js ↦
            let own : L v c = subst (λ u. L u c) js h in
            absurd (not_again v f.0 a c r (next c own) own f.1 f.2 l)
        | inr g ↦ elim (kids_fork v f.0 g.0 f.1 g.1) [
          | inl is ↦ one_below (next f.0 f.1) (reach_edge r f.1) a b c f.2 l
              (subst (λ u. Below u b) (sym is) g.2) h
          | inr forks ↦ absurd (not_both v f.0 g.0 c r (reach_edge (below_on (reach_edge r f.1) f.2) l) forks
              (reach_edge f.2 l) (reach_edge g.2 h))
        ]
      ]
    ]

    -- where no evaluation is below both of two that fork
    pub one_asker : (a b c : MatchTask) → R a → L a c → R b → L b c → a ≡ b
    one_asker a b c r l s k =
        let end = reached_ends rules start nodes bodies ranks x sound root is_root reach_root in
        one_below end reach_root a b c r l s k
