-- Where the start rule's outcome needs no more than the window, stored keys imply cells.
-- Serves: implied_cells
use Rattle.std.proofs.Common.{◌≡◌, ◌⊎◌, inl, inr, ℕ, zero, suc, Bool, true, false, List, [], ◌∷◌, ◌++◌, Option, Some}
use Rattle.std.proofs.Common.{None, refl, sym, subst, ◌<◌, length, get_or, arith}
use Rattle.std.specs.Prelude.{slice_get}
use Rattle.std.proofs.lemmas.Option.{slice_get-get_or}
use Rattle.pegread.specs.Pattern.{Rule}
use Rattle.pegnodes.specs.Nodes as node
use Rattle.pegnodes.specs.Nodes.{Shape}
use Rattle.gramcheck.specs.Outcome.{Outcome}
use Rattle.gramcheck.specs.Sound.{IsRanked}
use Rattle.memo.specs.declared.found.Found.{Found}
use Rattle.memo.specs.declared.found.Found.TheVariants.{Failed, Took}
use Rattle.memo.specs.Entries.{Entry}
use Rattle.pegmatch.specs.Answers.{WasEnough}
use Rattle.pegmatch.specs.CellOutcomes.{IsFound}
use Rattle.pegmatch.specs.Visits.{NodeGives, NodeTakes, NodeFails}
use Rattle.pegmatch.proofs.AsksLemmas.{visited_there}
use Rattle.pegnodes.specs.KeyMarks.{AreMarks}
use Rattle.pegnodes.specs.NodeWays.{Way, Leaf, Body, Members, Alternatives, Iterations, Operand, way_of}
use Rattle.memo.specs.Parts.{IsIn, in_here, in_later, Reach, reach_root, reach_edge, Part, part, Parts, parts_none}
use Rattle.memo.specs.Parts.{parts_key, parts_more, Whole, whole_none, whole_more}
use Rattle.memo.specs.Run.{Ends, ends}
use Rattle.memo.specs.declared.task.MatchTask.{MatchTask}
use Rattle.memo.specs.declared.task.MatchTask.TheVariants.{Eval, Tail}
use Rattle.memo.proofs.PartsLemmas.{whole_reached}
use Rattle.packrat.specs.MatchTasks.{Leads, LeadsBy, TailLeadsBy, Kids, KidsBy, TailKidsBy, is_key}
use Rattle.packrat.specs.View.{AreImplied, AreStored}
use Rattle.packrat.proofs.AreImpliedLemmas.{is_forest}
use Rattle.packrat.proofs.EndsLemmas.{reached_ends}
use Rattle.packrat.proofs.EvaluatesLemmas.{has_found, has_cells}
use Rattle.packrat.proofs.TaskReachLemmas.{reached_is_visited}

-- each vertex that ends has a part if what is reached has kids
module _ (V : Type 0) (Edge : V → V → Type 0) (root : V) (Kids' : V → List V → Type 0) (key : V → Bool)
    (leads : (a b : V) (ks : List V) → Kids' a ks → IsIn b ks → Edge a b)
    (kids : (a : V) → Reach V Edge root a → (ks : List V) × Kids' a ks) where
  more_parts : (c : V) (ks ps : List V) → Parts V Kids' key ks ps → ((xs : List V) × Part V Kids' key c xs)
      → (ps : List V) × Parts V Kids' key (c ∷ ks) ps
  more_parts c ks ps rest p = by (key c) refl
    where
      by : (v : Bool) → key c ≡ v → (ps : List V) × Parts V Kids' key (c ∷ ks) ps
      by true t = (ps, parts_key t rest)
      by false t = (p.0 ++ ps, parts_more t p.1 rest)

  parts_of : (ks : List V) → ((b : V) → IsIn b ks → (xs : List V) × Part V Kids' key b xs)
      → (ps : List V) × Parts V Kids' key ks ps
  parts_of [] each = ([], parts_none)
  parts_of (c ∷ ks) each =
      let rest = parts_of ks (λ b i. each b (in_later i)) in
      more_parts c ks rest.0 rest.1 (each c in_here)

  part_of : {a : V} → Ends V Edge a → Reach V Edge root a → (xs : List V) × Part V Kids' key a xs
  part_of (ends {a = a} below) r =
      let h = kids a r in
      let p = parts_of h.0 (λ b i.
      let e = leads a b h.0 h.1 i in
      part_of (below b e) (reach_edge r e)) in
      (a ∷ p.0, part h.1 p.1)

  pub whole_of : ((a : V) → Reach V Edge root a → Ends V Edge a) → (ks : List V)
      → ((k : V) → IsIn k ks → Reach V Edge root k) → (xs : List V) × Whole V Kids' key ks xs
  whole_of end [] r = ([], whole_none)
  whole_of end (k ∷ ks) r =
      let reached = r k in_here in
      let p = part_of (end k reached) reached in
      let w = whole_of end ks (λ a i. r a (in_later i)) in
      (p.0 ++ w.0, whole_more p.1 w.1)

module _ (rules : List Rule) (start : ℕ) (nodes : List Shape) (bodies ranks x : List ℕ) (more : Bool)
    (sound : IsRanked rules start nodes bodies ranks) (root : ℕ) (is_root : slice_get bodies start ≡ Some root)
    (marks : ℕ → Bool) (tails : ℕ → ℕ → Bool) (are : AreMarks start nodes bodies marks tails) (o : Outcome) (k : ℕ)
    (d : NodeGives rules nodes bodies x root 0 o k) (enough : WasEnough x more k) where
  abbrev R : MatchTask → Type 0
  R a = Reach MatchTask (Leads rules nodes bodies x) (Eval root 0) a

  -- what a reached evaluation gives
  fails_or_takes : (n p : ℕ) → R (Eval n p) → NodeFails rules nodes bodies x n p
      ⊎ ((q : ℕ) × NodeTakes rules nodes bodies x n p q)
  fails_or_takes n p r =
      let h = has_found rules start nodes bodies ranks x more sound root is_root marks tails are o k d enough n p r in
      by h.f h.found
    where
      by : (f : Found) → IsFound rules start nodes bodies x more n p f → NodeFails rules nodes bodies x n p
          ⊎ ((q : ℕ) × NodeTakes rules nodes bodies x n p q)
      by Failed i = inl (record { looked = i.looked; gives = i.gives })
      by (Took q) i = inr (q, record { events = i.events; looked = i.looked; gives = i.gives })

  module _ (n p : ℕ) (r : R (Eval n p)) where
    members_kids : (ms : List ℕ) → (o : Option ℕ) → slice_get ms zero ≡ o
        → (ks : List MatchTask) × (((slice_get ms zero ≡ None) × (ks ≡ []))
        ⊎ ((m : ℕ) × (slice_get ms zero ≡ Some m) × (ks ≡ Tail n zero p ∷ [])))
    members_kids ms None is = ([], inl (is, refl))
    members_kids ms (Some m) is = (Tail n zero p ∷ [], inr (m, is, refl))

    iterations_kids : (i s : ℕ) → R (Eval i p)
        → (ks : List MatchTask) × ((NodeFails rules nodes bodies x i p × (ks ≡ Eval i p ∷ []))
        ⊎ ((q : ℕ) × NodeTakes rules nodes bodies x i p q × (ks ≡ Eval i p ∷ (Eval s q ∷ []))))
    iterations_kids i s reached = elim (fails_or_takes i p reached) [
      | inl f ↦ (Eval i p ∷ [], inl (f, refl))
      | inr t ↦ (Eval i p ∷ (Eval s t.0 ∷ []), inr (t.0, t.1, refl))
    ]

    eval_kids : (shape : Shape) → slice_get nodes n ≡ Some shape
        → (ks : List MatchTask) × KidsBy rules nodes bodies x (way_of n shape) n p ks
    eval_kids node.Any at = ([], refl)
    eval_kids (node.Bytes bs) at = ([], refl)
    eval_kids (node.Set s) at = ([], refl)
    eval_kids (node.Name id) at =
        let low = sound.defined n id at in
        let count = sound.spelled.count in
        let body = slice_get-get_or bodies id 0 (omega (arith, low, count)) in
        (Eval (get_or bodies id 0) p ∷ [], (get_or bodies id 0, body, refl))
    eval_kids (node.Seq ms) at = members_kids ms (slice_get ms zero) refl
    eval_kids (node.Choice ms) at = members_kids ms (slice_get ms zero) refl
    eval_kids (node.Star i) at = iterations_kids i n (reach_edge r (node.Star i, at, inl refl))
    eval_kids (node.Plus i s) at = iterations_kids i s (reach_edge r (node.Plus i s, at, inl refl))
    eval_kids (node.Opt i) at = (Eval i p ∷ [], refl)
    eval_kids (node.And i) at = (Eval i p ∷ [], refl)
    eval_kids (node.Not i) at = (Eval i p ∷ [], refl)
    eval_kids (node.Act t) at = ([], refl)
    eval_kids node.Open at = ([], refl)
    eval_kids node.Close at = ([], refl)

  -- the member from which a tail goes on
  abbrev HasMemberAt : Way → ℕ → Type 0
  HasMemberAt Leaf i = ⊥
  HasMemberAt (Body id) i = ⊥
  HasMemberAt (Members ms) i = (m : ℕ) × (slice_get ms i ≡ Some m)
  HasMemberAt (Alternatives ms) i = (m : ℕ) × (slice_get ms i ≡ Some m)
  HasMemberAt (Iterations j s) i = ⊥
  HasMemberAt (Operand j) i = ⊥

  abbrev IsTailOf : MatchTask → Type 0
  IsTailOf (Eval n p) = Unit {0}
  IsTailOf (Tail n i p) =
      (shape : Shape) × (slice_get nodes n ≡ Some shape) × HasMemberAt (way_of n shape) i

  module _ (n : ℕ) (shape : Shape) (at : slice_get nodes n ≡ Some shape) where
    tail_by : (p : ℕ) (w : Way) → way_of n shape ≡ w → (b : MatchTask) → LeadsBy rules nodes bodies x w n p b
        → IsTailOf b
    tail_by p Leaf is b l = absurd l
    tail_by p (Body id) is b l = subst IsTailOf (sym l.2) tt
    tail_by p (Members ms) is b l =
        subst IsTailOf (sym l.2) (shape, at, subst (λ v. HasMemberAt v zero) (sym is) (l.0, l.1))
    tail_by p (Alternatives ms) is b l =
        subst IsTailOf (sym l.2) (shape, at, subst (λ v. HasMemberAt v zero) (sym is) (l.0, l.1))
    tail_by p (Iterations j s) is b l = elim l [
      | inl e ↦ subst IsTailOf (sym e) tt
      | inr e ↦ subst IsTailOf (sym e.2) tt
    ]
    tail_by p (Operand j) is b l = subst IsTailOf (sym l) tt

    further_by : (i p : ℕ) (w : Way) → way_of n shape ≡ w → (b : MatchTask) → TailLeadsBy rules nodes bodies x w n i p b
        → IsTailOf b
    further_by i p Leaf is b l = absurd l
    further_by i p (Body id) is b l = absurd l
    further_by i p (Members ms) is b l = elim l.2 [
      | inl e ↦ subst IsTailOf (sym e) tt
      | inr e ↦ subst IsTailOf (sym e.4) (shape, at, subst (λ v. HasMemberAt v (suc i)) (sym is) (e.0, e.2))
    ]
    further_by i p (Alternatives ms) is b l = elim l.2 [
      | inl e ↦ subst IsTailOf (sym e) tt
      | inr e ↦ subst IsTailOf (sym e.3) (shape, at, subst (λ v. HasMemberAt v (suc i)) (sym is) (e.0, e.1))
    ]
    further_by i p (Iterations j s) is b l = absurd l
    further_by i p (Operand j) is b l = absurd l

  led_tail : (a b : MatchTask) → Leads rules nodes bodies x a b → IsTailOf b
  led_tail (Eval n p) b l = tail_by n l.0 l.1 p (way_of n l.0) refl b l.2
  led_tail (Tail n i p) b l = further_by n l.0 l.1 i p (way_of n l.0) refl b l.2

  tail_of_reach : {a : MatchTask} → R a → IsTailOf a
  tail_of_reach reach_root = tt
  tail_of_reach (reach_edge {a = a} {b = b} r l) = led_tail a b l

  tail_kids : (n i p : ℕ) (w : Way) → HasMemberAt w i
      → ((b : MatchTask) → TailLeadsBy rules nodes bodies x w n i p b → R b)
      → (ks : List MatchTask) × TailKidsBy rules nodes bodies x w n i p ks
  tail_kids n i p Leaf h on = absurd h
  tail_kids n i p (Body id) h on = absurd h
  tail_kids n i p (Members ms) h on =
      elim (fails_or_takes h.0 p (on (Eval h.0 p) (h.0, h.1, inl refl))) [
        | inl f ↦ (Eval h.0 p ∷ [], (h.0, h.1, inl (inl f, refl)))
        | inr t ↦ by (slice_get ms (suc i)) refl t
      ]
    where
      by : (v : Option ℕ) → slice_get ms (suc i) ≡ v → ((q : ℕ) × NodeTakes rules nodes bodies x h.0 p q)
          → (ks : List MatchTask) × TailKidsBy rules nodes bodies x (Members ms) n i p ks
      by None is t = (Eval h.0 p ∷ [], (h.0, h.1, inl (inr is, refl)))
      by (Some j) is t = (Eval h.0 p ∷ (Tail n (suc i) t.0 ∷ []), (h.0, h.1, inr (j, t.0, is, t.1, refl)))
  tail_kids n i p (Alternatives ms) h on =
      elim (fails_or_takes h.0 p (on (Eval h.0 p) (h.0, h.1, inl refl))) [
        | inl f ↦ by (slice_get ms (suc i)) refl f
        | inr t ↦ (Eval h.0 p ∷ [], (h.0, h.1, inl (inl t, refl)))
      ]
    where
      by : (v : Option ℕ) → slice_get ms (suc i) ≡ v → NodeFails rules nodes bodies x h.0 p
          → (ks : List MatchTask) × TailKidsBy rules nodes bodies x (Alternatives ms) n i p ks
      by None is f = (Eval h.0 p ∷ [], (h.0, h.1, inl (inr is, refl)))
      by (Some j) is f = (Eval h.0 p ∷ (Tail n (suc i) p ∷ []), (h.0, h.1, inr (j, is, f, refl)))
  tail_kids n i p (Iterations j s) h on = absurd h
  tail_kids n i p (Operand j) h on = absurd h

  node_there : (n : ℕ) → (p : ℕ) → R (Eval n p) → (shape : Shape) × (slice_get nodes n ≡ Some shape)
  node_there n p r =
      let v = reached_is_visited rules start nodes bodies x root is_root n p r in
      let low = (visited_there rules start nodes bodies ranks x sound n p v).0 in
      by (slice_get nodes n) refl low
    where
      by : (v : Option Shape) → slice_get nodes n ≡ v → n < length nodes
          → (shape : Shape) × (slice_get nodes n ≡ Some shape)
      by (Some shape) is lt = (shape, is)
      by None is lt = absurd (cc (slice_get-get_or nodes n node.Any lt, is))

  has_kids : (a : MatchTask) → R a → (ks : List MatchTask) × Kids rules nodes bodies x a ks
  has_kids (Eval n p) r =
      let h = node_there n p r in
      let ks = eval_kids n p r h.0 h.1 in
      (ks.0, (h.0, h.1, ks.1))
  has_kids (Tail n i p) r =
      let h : IsTailOf (Tail n i p) = tail_of_reach r in
      let ks = tail_kids n i p (way_of n h.0) h.2 (λ b l. reach_edge r (h.0, h.1, l)) in
      (ks.0, (h.0, h.1, ks.1))

  pub implied_some : (stored : List MatchTask) → AreStored rules start nodes bodies x more marks tails root stored
      → (cells : List Entry) × AreImplied rules start nodes bodies x more marks tails stored cells
  implied_some stored s =
      let forest = is_forest rules start nodes bodies ranks x more sound root is_root marks tails are in
      let w = whole_of MatchTask (Leads rules nodes bodies x) (Eval root 0) (Kids rules nodes bodies x)
      (is_key marks tails)
      forest.leads has_kids (λ a r. reached_ends rules start nodes bodies ranks x sound root is_root r) stored
      s.reached in
      let c = has_cells rules start nodes bodies ranks x more sound root is_root marks tails are o k d enough w.0
      (λ a i. whole_reached MatchTask (Leads rules nodes bodies x) (Eval root 0) (Kids rules nodes bodies x)
      (is_key marks tails) forest w.1 s.reached i) in
      (c.cells, record { tasks = w.0; whole = w.1; cells_of = c.of_tasks })
