-- Where a reached task leads, step by step, comes to an end.
-- Serves: evaluated_once
use Rattle.std.proofs.Common.{◌≡◌, inl, inr, ℕ, zero, suc, ◌+◌, ◌<◌, List, [], ◌∷◌, Some, drop, refl, sym}
use Rattle.std.proofs.Common.{subst, arith}
use Rattle.std.specs.Prelude.{slice_get}
use Rattle.pegread.specs.Pattern.{Rule}
use Rattle.pegnodes.specs.Nodes as node
use Rattle.pegnodes.specs.Nodes.{Shape}
use Rattle.gramcheck.specs.Sound.{IsRanked}
use Rattle.pegmatch.specs.Visits.{AsksMember, member_here, member_later, AsksAlternative, alternative_here}
use Rattle.pegmatch.specs.Visits.{alternative_later, AsksBy, Asks, Visits, first, asked, NodeTakes, NodeFails}
use Rattle.pegmatch.proofs.AsksLemmas.{is_visited, height, height_falls}
use Rattle.memo.specs.Parts.{Reach, reach_root, reach_edge}
use Rattle.memo.specs.Run.{Ends, ends}
use Rattle.memo.specs.declared.task.MatchTask.{MatchTask}
use Rattle.memo.specs.declared.task.MatchTask.TheVariants.{Eval, Tail}
use Rattle.pegnodes.specs.NodeWays.{way_of}
use Rattle.packrat.specs.MatchTasks.{LeadsBy, TailLeadsBy, Leads}
use Rattle.packrat.proofs.TaskReachLemmas.{front_drop, drop_none, drop_front}

module _ (rules : List Rule) (start : ℕ) (nodes : List Shape) (bodies ranks x : List ℕ)
    (sound : IsRanked rules start nodes bodies ranks) (root : ℕ) (is_root : slice_get bodies start ≡ Some root) where
  abbrev E : MatchTask → Type 0
  E a = Ends MatchTask (Leads rules nodes bodies x) a

  abbrev V : ℕ → ℕ → Type 0
  V n p = Visits rules nodes bodies x start n p

  abbrev A : ℕ → ℕ → ℕ → ℕ → Type 0
  A n p m q = Asks rules nodes bodies x n p m q

  abbrev AM : List ℕ → ℕ → ℕ → ℕ → Type 0
  AM ms p m q = AsksMember rules nodes bodies x ms p m q

  abbrev AA : ℕ → List ℕ → ℕ → Type 0
  AA p ms m = AsksAlternative rules nodes bodies x p ms m

  end_as : (a b : MatchTask) → a ≡ b → E b → E a
  end_as a b is e = subst E (sym is) e

  module _ (n p : ℕ) (below : (m q : ℕ) → A n p m q → E (Eval m q)) where
    rest_ends : (ms : List ℕ) → slice_get nodes n ≡ Some (node.Seq ms) → (l : List ℕ) → (i q : ℕ) → drop i ms ≡ l
        → ((m r : ℕ) → AM l q m r → A n p m r) → E (Tail n i q)
    rest_ends ms at [] i q is on = ends (λ b l.
        let same : l.0 ≡ node.Seq ms = cc (l.1, at) in
        let by : TailLeadsBy rules nodes bodies x (way_of n (node.Seq ms)) n i q b =
        subst (λ v. TailLeadsBy rules nodes bodies x (way_of n v) n i q b) same l.2 in
        absurd (let front = front_drop ms i by.0 by.1 in cc (front, is)))
    rest_ends ms at (m ∷ l) i q is on = ends (λ b h.
        let same : h.0 ≡ node.Seq ms = cc (h.1, at) in
        let by : TailLeadsBy rules nodes bodies x (way_of n (node.Seq ms)) n i q b =
        subst (λ v. TailLeadsBy rules nodes bodies x (way_of n v) n i q b) same h.2 in
        let front = drop_front ms l i m is in
        let own : by.0 ≡ m = cc (by.1, front.0) in
        elim by.2 [
          | inl e ↦ end_as b (Eval by.0 q) e
              (below by.0 q (on by.0 q (subst (λ v. AM (m ∷ l) q v q) (sym own) member_here)))
          | inr e ↦ end_as b (Tail n (suc i) e.1) e.4
              (rest_ends ms at l (suc i) e.1 front.1
              (λ k r a. on k r (member_later (subst (λ v. NodeTakes rules nodes bodies x v q e.1) own e.3) a)))
        ])

    others_end : (ms : List ℕ) → slice_get nodes n ≡ Some (node.Choice ms) → (l : List ℕ) → (i : ℕ) → drop i ms ≡ l
        → ((m : ℕ) → AA p l m → A n p m p) → E (Tail n i p)
    others_end ms at [] i is on = ends (λ b l.
        let same : l.0 ≡ node.Choice ms = cc (l.1, at) in
        let by : TailLeadsBy rules nodes bodies x (way_of n (node.Choice ms)) n i p b =
        subst (λ v. TailLeadsBy rules nodes bodies x (way_of n v) n i p b) same l.2 in
        absurd (let front = front_drop ms i by.0 by.1 in cc (front, is)))
    others_end ms at (m ∷ l) i is on = ends (λ b h.
        let same : h.0 ≡ node.Choice ms = cc (h.1, at) in
        let by : TailLeadsBy rules nodes bodies x (way_of n (node.Choice ms)) n i p b =
        subst (λ v. TailLeadsBy rules nodes bodies x (way_of n v) n i p b) same h.2 in
        let front = drop_front ms l i m is in
        let own : by.0 ≡ m = cc (by.1, front.0) in
        elim by.2 [
          | inl e ↦ end_as b (Eval by.0 p) e
              (below by.0 p (on by.0 (subst (λ v. AA p (m ∷ l) v) (sym own) alternative_here)))
          | inr e ↦ end_as b (Tail n (suc i) p) e.3
              (others_end ms at l (suc i) front.1
              (λ k a. on k (alternative_later (subst (λ v. NodeFails rules nodes bodies x v p) own e.2) a)))
        ])

    ask_ends : (m q : ℕ) (shape : Shape) → slice_get nodes n ≡ Some shape → AsksBy rules nodes bodies x shape n p m q
        → E (Eval m q)
    ask_ends m q shape at by = below m q (record { shape = shape; at = at; by = by })

    end_by : (b : MatchTask) (shape : Shape) → slice_get nodes n ≡ Some shape
        → LeadsBy rules nodes bodies x (way_of n shape) n p b → E b
    end_by b node.Any at l = absurd l
    end_by b (node.Bytes bs) at l = absurd l
    end_by b (node.Set s) at l = absurd l
    end_by b (node.Name id) at l = end_as b (Eval l.0 p) l.2 (ask_ends l.0 p (node.Name id) at (l.1, refl))
    end_by b (node.Seq ms) at l = end_as b (Tail n zero p) l.2
        (rest_ends ms at ms zero p (drop_none ms) (λ m r a. record { shape = node.Seq ms; at = at; by = a }))
    end_by b (node.Choice ms) at l = end_as b (Tail n zero p) l.2
        (others_end ms at ms zero (drop_none ms) (λ m a. record { shape = node.Choice ms; at = at; by = (a, refl) }))
    end_by b (node.Star k) at l = elim l [
      | inl e ↦ end_as b (Eval k p) e (ask_ends k p (node.Star k) at (inl (refl, refl)))
      | inr e ↦ end_as b (Eval n e.0) e.2 (ask_ends n e.0 (node.Star k) at (inr (refl, e.1)))
    ]
    end_by b (node.Plus k s) at l = elim l [
      | inl e ↦ end_as b (Eval k p) e (ask_ends k p (node.Plus k s) at (inl (refl, refl)))
      | inr e ↦ end_as b (Eval s e.0) e.2 (ask_ends s e.0 (node.Plus k s) at (inr (refl, e.1)))
    ]
    end_by b (node.Opt k) at l = end_as b (Eval k p) l (ask_ends k p (node.Opt k) at (refl, refl))
    end_by b (node.And k) at l = end_as b (Eval k p) l (ask_ends k p (node.And k) at (refl, refl))
    end_by b (node.Not k) at l = end_as b (Eval k p) l (ask_ends k p (node.Not k) at (refl, refl))
    end_by b (node.Act t) at l = absurd l
    end_by b node.Open at l = absurd l
    end_by b node.Close at l = absurd l

  abbrev H : ℕ → ℕ → ℕ
  H n p = height rules start nodes bodies ranks x sound n p

  eval_ends : (t n p : ℕ) → V n p → H n p < t → E (Eval n p)
  eval_ends zero n p v lt = absurd (omega arith)
  eval_ends (suc t) n p v lt = ends (λ b l. end_by n p (lower t n p v lt (λ m q w h. eval_ends t m q w h)) b l.0 l.1
      l.2)
    where
      lower : (t n p : ℕ) → V n p → H n p < suc t → ((m q : ℕ) → V m q → H m q < t → E (Eval m q)) → (m q : ℕ)
          → A n p m q → E (Eval m q)
      lower t n p v lt rec m q a =
          let is = is_visited rules start nodes bodies ranks x sound v in
          let falls = height_falls rules start nodes bodies ranks x sound n p m q is.spelled is.high a in
          rec m q (asked v a) (omega (arith, falls, lt))

  pub visit_ends : (n p : ℕ) → V n p → E (Eval n p)
  visit_ends n p v = eval_ends (H n p + 1) n p v (omega arith)

  step_ends : {a : MatchTask} → E a → (b : MatchTask) → Leads rules nodes bodies x a b → E b
  step_ends (ends below) b l = below b l

  pub reached_ends : {a : MatchTask} → Reach MatchTask (Leads rules nodes bodies x) (Eval root 0) a → E a
  reached_ends reach_root = visit_ends root 0 (first is_root)
  reached_ends (reach_edge {b = b} r l) = step_ends (reached_ends r) b l
