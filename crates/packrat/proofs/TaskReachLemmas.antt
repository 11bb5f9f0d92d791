-- The evaluations that are reached in steps are those that are visited.
-- Serves: implied_cells
use Rattle.std.proofs.Common.{◌≡◌, inl, inr, ℕ, zero, suc, List, [], ◌∷◌, Some, drop, refl, sym, subst, ap}
use Rattle.std.proofs.Common.{◌∙◌}
use Rattle.std.specs.Prelude.{slice_get}
use Rattle.pegread.specs.Pattern.{Rule}
use Rattle.pegnodes.specs.Nodes as node
use Rattle.pegnodes.specs.Nodes.{Shape}
use Rattle.pegmatch.specs.Visits.{AsksMember, member_here, member_later, AsksAlternative}
use Rattle.pegmatch.specs.Visits.{alternative_here, alternative_later, AsksBy, Asks, Visits, first, asked}
use Rattle.memo.specs.Parts.{Reach, reach_root, reach_edge}
use Rattle.memo.specs.declared.task.MatchTask.{MatchTask}
use Rattle.memo.specs.declared.task.MatchTask.TheVariants.{Eval, Tail}
use Rattle.pegnodes.specs.NodeWays.{way_of}
use Rattle.packrat.specs.MatchTasks.{LeadsBy, TailLeadsBy, Leads}

pub front_drop : (ms : List ℕ) (i m : ℕ) → slice_get ms i ≡ Some m → drop i ms ≡ m ∷ drop (suc i) ms
front_drop [] i m h = absurd (cc h)
front_drop (k ∷ ms) zero m h = let is : k ≡ m = cc h in cc
front_drop (k ∷ ms) (suc i) m h = front_drop ms i m h

pub drop_none : (ms : List ℕ) → drop zero ms ≡ ms
drop_none [] = refl
drop_none (m ∷ ms) = refl

pub drop_front : (ms l : List ℕ) (i m : ℕ) → drop i ms ≡ m ∷ l → (slice_get ms i ≡ Some m) × (drop (suc i) ms ≡ l)
drop_front [] l zero m h = absurd (cc h)
drop_front [] l (suc i) m h = absurd (cc h)
drop_front (k ∷ ms) l zero m h = let is : k ≡ m = cc h in (cc, drop_none ms ∙ cc)
drop_front (k ∷ ms) l (suc i) m h = drop_front ms l i m h

-- where a set of evaluations leads that has all that its evaluations ask for
module _ (rules : List Rule) (nodes : List Shape) (bodies x : List ℕ) (V : ℕ → ℕ → Type 0)
    (on : (n p m q : ℕ) → V n p → Asks rules nodes bodies x n p m q → V m q) where
  abbrev A' : ℕ → ℕ → ℕ → ℕ → Type 0
  A' n p m q = Asks rules nodes bodies x n p m q

  abbrev AM' : List ℕ → ℕ → ℕ → ℕ → Type 0
  AM' ms p m q = AsksMember rules nodes bodies x ms p m q

  abbrev AA' : ℕ → List ℕ → ℕ → Type 0
  AA' p ms m = AsksAlternative rules nodes bodies x p ms m

  -- what the rest of a node from member i on at q asks for
  abbrev TailAsks : Shape → ℕ → ℕ → ℕ → ℕ → Type 0
  TailAsks node.Any i q m r = ⊥
  TailAsks (node.Bytes bs) i q m r = ⊥
  TailAsks (node.Set s) i q m r = ⊥
  TailAsks (node.Name id) i q m r = ⊥
  TailAsks (node.Seq ms) i q m r = AM' (drop i ms) q m r
  TailAsks (node.Choice ms) i q m r = AA' q (drop i ms) m × (r ≡ q)
  TailAsks (node.Star k) i q m r = ⊥
  TailAsks (node.Plus k s) i q m r = ⊥
  TailAsks (node.Opt k) i q m r = ⊥
  TailAsks (node.And k) i q m r = ⊥
  TailAsks (node.Not k) i q m r = ⊥
  TailAsks (node.Act t) i q m r = ⊥
  TailAsks node.Open i q m r = ⊥
  TailAsks node.Close i q m r = ⊥

  -- a rest is one of an evaluation of the set, which asks for what it asks for
  pub record IsTail (n i q : ℕ) : Type 0 where
    pub position : ℕ
    pub visited : V n position
    pub asks : (shape : Shape) → slice_get nodes n ≡ Some shape → (m r : ℕ) → TailAsks shape i q m r → A' n position m r

  abbrev pub Seen : MatchTask → Type 0
  Seen (Eval n p) = V n p
  Seen (Tail n i q) = IsTail n i q

  seen_as : (a b : MatchTask) → a ≡ b → Seen b → Seen a
  seen_as a b is s = subst Seen (sym is) s

  module _ (n p : ℕ) (v : V n p) where
    ask_visits : (m q : ℕ) (shape : Shape) → slice_get nodes n ≡ Some shape
        → AsksBy rules nodes bodies x shape n p m q → V m q
    ask_visits m q shape at by = on n p m q v (record { shape = shape; at = at; by = by })

    rest_of : (shape : Shape) → slice_get nodes n ≡ Some shape
        → ((m r : ℕ) → TailAsks shape zero p m r → AsksBy rules nodes bodies x shape n p m r) → IsTail n zero p
    rest_of shape at by =
        record {
          position = p;
          visited = v;
          asks = λ other there m r h.
              let same : other ≡ shape = cc (at, there) in
              record { shape = shape; at = at; by = by m r (subst (λ w. TailAsks w zero p m r) same h) };
        }

    seen_by : (b : MatchTask) (shape : Shape) → slice_get nodes n ≡ Some shape
        → LeadsBy rules nodes bodies x (way_of n shape) n p b → Seen b
    seen_by b node.Any at l = absurd l
    seen_by b (node.Bytes bs) at l = absurd l
    seen_by b (node.Set s) at l = absurd l
    seen_by b (node.Name id) at l = seen_as b (Eval l.0 p) l.2 (ask_visits l.0 p (node.Name id) at (l.1, refl))
    seen_by b (node.Seq ms) at l = seen_as b (Tail n zero p) l.2
        (rest_of (node.Seq ms) at (λ m r h. subst (λ w. AM' w p m r) (drop_none ms) h))
    seen_by b (node.Choice ms) at l = seen_as b (Tail n zero p) l.2
        (rest_of (node.Choice ms) at (λ m r h. (subst (λ w. AA' p w m) (drop_none ms) h.0, h.1)))
    seen_by b (node.Star k) at l = elim l [
      | inl e ↦ seen_as b (Eval k p) e (ask_visits k p (node.Star k) at (inl (refl, refl)))
      | inr e ↦ seen_as b (Eval n e.0) e.2 (ask_visits n e.0 (node.Star k) at (inr (refl, e.1)))
    ]
    seen_by b (node.Plus k s) at l = elim l [
      | inl e ↦ seen_as b (Eval k p) e (ask_visits k p (node.Plus k s) at (inl (refl, refl)))
      | inr e ↦ seen_as b (Eval s e.0) e.2 (ask_visits s e.0 (node.Plus k s) at (inr (refl, e.1)))
    ]
    seen_by b (node.Opt k) at l = seen_as b (Eval k p) l (ask_visits k p (node.Opt k) at (refl, refl))
    seen_by b (node.And k) at l = seen_as b (Eval k p) l (ask_visits k p (node.And k) at (refl, refl))
    seen_by b (node.Not k) at l = seen_as b (Eval k p) l (ask_visits k p (node.Not k) at (refl, refl))
    seen_by b (node.Act t) at l = absurd l
    seen_by b node.Open at l = absurd l
    seen_by b node.Close at l = absurd l

  module _ (n i q : ℕ) (s : IsTail n i q) where
    rest_ask : (m r : ℕ) (shape : Shape) → slice_get nodes n ≡ Some shape → TailAsks shape i q m r → V m r
    rest_ask m r shape at by = on n s.position m r s.visited (s.asks shape at m r by)

    further_visited : (r : ℕ) (shape : Shape) → slice_get nodes n ≡ Some shape
        → ((m z : ℕ) → TailAsks shape (suc i) r m z → TailAsks shape i q m z) → IsTail n (suc i) r
    further_visited r shape at by =
        record {
          position = s.position;
          visited = s.visited;
          asks = λ other there m z h.
              let same : other ≡ shape = cc (at, there) in
              s.asks shape at m z (by m z (subst (λ w. TailAsks w (suc i) r m z) same h));
        }

    rest_seen_by : (b : MatchTask) (shape : Shape) → slice_get nodes n ≡ Some shape
        → TailLeadsBy rules nodes bodies x (way_of n shape) n i q b → Seen b
    rest_seen_by b node.Any at l = absurd l
    rest_seen_by b (node.Bytes bs) at l = absurd l
    rest_seen_by b (node.Set h) at l = absurd l
    rest_seen_by b (node.Name id) at l = absurd l
    rest_seen_by b (node.Seq ms) at l =
        let front = front_drop ms i l.0 l.1 in
        elim l.2 [
          | inl e ↦ seen_as b (Eval l.0 q) e
              (rest_ask l.0 q (node.Seq ms) at (subst (λ w. AM' w q l.0 q) (sym front) member_here))
          | inr e ↦ seen_as b (Tail n (suc i) e.1) e.4
              (further_visited e.1 (node.Seq ms) at
              (λ m z h. subst (λ w. AM' w q m z) (sym front) (member_later e.3 h)))
        ]
    rest_seen_by b (node.Choice ms) at l =
        let front = front_drop ms i l.0 l.1 in
        elim l.2 [
          | inl e ↦ seen_as b (Eval l.0 q) e
              (rest_ask l.0 q (node.Choice ms) at (subst (λ w. AA' q w l.0) (sym front) alternative_here, refl))
          | inr e ↦ seen_as b (Tail n (suc i) q) e.3
              (further_visited q (node.Choice ms) at
              (λ m z h. (subst (λ w. AA' q w m) (sym front) (alternative_later e.2 h.0), h.1)))
        ]
    rest_seen_by b (node.Star k) at l = absurd l
    rest_seen_by b (node.Plus k j) at l = absurd l
    rest_seen_by b (node.Opt k) at l = absurd l
    rest_seen_by b (node.And k) at l = absurd l
    rest_seen_by b (node.Not k) at l = absurd l
    rest_seen_by b (node.Act t) at l = absurd l
    rest_seen_by b node.Open at l = absurd l
    rest_seen_by b node.Close at l = absurd l

  pub seen_next : (a b : MatchTask) → Seen a → Leads rules nodes bodies x a b → Seen b
  seen_next (Eval n p) b s l = seen_by n p s b l.0 l.1 l.2
  seen_next (Tail n i p) b s l = rest_seen_by n i p s b l.0 l.1 l.2

module _ (rules : List Rule) (start : ℕ) (nodes : List Shape) (bodies x : List ℕ)
    (root : ℕ) (is_root : slice_get bodies start ≡ Some root) where
  abbrev W : ℕ → ℕ → Type 0
  W n p = Visits rules nodes bodies x start n p

  abbrev AM : List ℕ → ℕ → ℕ → ℕ → Type 0
  AM ms p m q = AsksMember rules nodes bodies x ms p m q

  abbrev AA : ℕ → List ℕ → ℕ → Type 0
  AA p ms m = AsksAlternative rules nodes bodies x p ms m

  abbrev R : MatchTask → Type 0
  R a = Reach MatchTask (Leads rules nodes bodies x) (Eval root 0) a

  goes_on : (n p m q : ℕ) → W n p → Asks rules nodes bodies x n p m q → W m q
  goes_on n p m q v a = asked v a

  abbrev S : MatchTask → Type 0
  S a = Seen rules nodes bodies x W goes_on a

  reach_seen : {a : MatchTask} → R a → S a
  reach_seen reach_root = first is_root
  reach_seen (reach_edge {a = a} {b = b} r l) =
      seen_next rules nodes bodies x W goes_on a b (reach_seen r) l

  -- what is reached is visited
  pub reached_is_visited : (n p : ℕ) → R (Eval n p) → W n p
  reached_is_visited n p r = reach_seen r

  member_front : {ms : List ℕ} {p m q : ℕ} → AM ms p m q → (k : ℕ) × (l : List ℕ) × (ms ≡ k ∷ l)
  member_front (member_here {m = m} {ms = ms}) = (m, ms, refl)
  member_front (member_later {k = k} {ms = ms} t a) = (k, ms, refl)

  alternative_front : {p m : ℕ} {ms : List ℕ} → AA p ms m → (k : ℕ) × (l : List ℕ) × (ms ≡ k ∷ l)
  alternative_front (alternative_here {m = m} {ms = ms}) = (m, ms, refl)
  alternative_front (alternative_later {k = k} {ms = ms} t a) = (k, ms, refl)

  module _ (n : ℕ) (ms : List ℕ) where
    -- along the members
    along_members : slice_get nodes n ≡ Some (node.Seq ms) → {l : List ℕ} {p m q : ℕ} → AM l p m q → (i : ℕ)
        → drop i ms ≡ l → R (Tail n i p) → R (Eval m q)
    along_members at (member_here {m = m} {ms = l}) i is r =
        let h = drop_front ms l i m is in
        reach_edge r (node.Seq ms, at, (m, h.0, inl refl))
    along_members at (member_later {k = k} {r = r} {ms = l} t a) i is reach =
        let h = drop_front ms l i k is in
        let f = member_front a in
        let g = drop_front ms f.1 (suc i) f.0 (h.1 ∙ f.2) in
        along_members at a (suc i) h.1 (reach_edge reach (node.Seq ms, at, (k, h.0, inr (f.0, r, g.0, t, refl))))

    along_alternatives : slice_get nodes n ≡ Some (node.Choice ms) → {p m : ℕ} {l : List ℕ} → AA p l m → (i : ℕ)
        → drop i ms ≡ l → R (Tail n i p) → R (Eval m p)
    along_alternatives at (alternative_here {m = m} {ms = l}) i is r =
        let h = drop_front ms l i m is in
        reach_edge r (node.Choice ms, at, (m, h.0, inl refl))
    along_alternatives at (alternative_later {k = k} {ms = l} t a) i is reach =
        let h = drop_front ms l i k is in
        let f = alternative_front a in
        let g = drop_front ms f.1 (suc i) f.0 (h.1 ∙ f.2) in
        along_alternatives at a (suc i) h.1
        (reach_edge reach (node.Choice ms, at, (k, h.0, inr (f.0, g.0, t, refl))))

  module _ (n p : ℕ) (r : R (Eval n p)) (m q : ℕ) where
    reach_at : (i j : ℕ) → m ≡ i → q ≡ j → R (Eval i j) → R (Eval m q)
    reach_at i j a b h = subst (λ v. R (Eval v q)) (sym a) (subst (λ v. R (Eval i v)) (sym b) h)

    reach_step : (shape : Shape) → slice_get nodes n ≡ Some shape
        → LeadsBy rules nodes bodies x (way_of n shape) n p (Eval m q)
        → R (Eval m q)
    reach_step shape at l = reach_edge r (shape, at, l)

    reach_by : (shape : Shape) → slice_get nodes n ≡ Some shape → AsksBy rules nodes bodies x shape n p m q
        → R (Eval m q)
    reach_by node.Any at a = absurd a
    reach_by (node.Bytes bs) at a = absurd a
    reach_by (node.Set s) at a = absurd a
    reach_by (node.Name id) at a = reach_step (node.Name id) at (m, a.0, ap (Eval m) a.1)
    reach_by (node.Seq ms) at a =
        let f = member_front a in
        let h = drop_front ms f.1 zero f.0 (drop_none ms ∙ f.2) in
        along_members n ms at a zero (drop_none ms) (reach_edge r (node.Seq ms, at, (f.0, h.0, refl)))
    reach_by (node.Choice ms) at a =
        let f = alternative_front a.0 in
        let h = drop_front ms f.1 zero f.0 (drop_none ms ∙ f.2) in
        reach_at m p refl a.1
        (along_alternatives n ms at a.0 zero (drop_none ms) (reach_edge r (node.Choice ms, at, (f.0, h.0, refl))))
    reach_by (node.Star k) at a = reach_step (node.Star k) at (elim a [
      | inl e ↦ inl (cc (e.0, e.1))
      | inr e ↦ inr (q, e.1, cc (e.0))
    ])
    reach_by (node.Plus k s) at a = reach_step (node.Plus k s) at (elim a [
      | inl e ↦ inl (cc (e.0, e.1))
      | inr e ↦ inr (q, e.1, cc (e.0))
    ])
    reach_by (node.Opt k) at a = reach_step (node.Opt k) at (cc (a.0, a.1))
    reach_by (node.And k) at a = reach_step (node.And k) at (cc (a.0, a.1))
    reach_by (node.Not k) at a = reach_step (node.Not k) at (cc (a.0, a.1))
    reach_by (node.Act t) at a = absurd a
    reach_by node.Open at a = absurd a
    reach_by node.Close at a = absurd a

  -- what is visited is reached
  pub visited_is_reached : {n p : ℕ} → W n p → R (Eval n p)
  visited_is_reached (first {n = n} h) =
      let same : root ≡ n = cc (h, is_root) in
      subst (λ v. R (Eval v 0)) same reach_root
  visited_is_reached (asked {n = n} {p = p} {m = m} {q = q} v a) =
      reach_by n p (visited_is_reached v) m q a.shape a.at a.by
