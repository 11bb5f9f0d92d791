-- An evaluation of a marked node is asked for by one evaluation.
-- Serves: asked_once
use Rattle.std.proofs.Common.{◌≡◌, inl, inr, ℕ, ◌+◌, List, Some, Contains, refl, sym, subst, arith}
use Rattle.std.specs.Prelude.{slice_get}
use Rattle.pegread.specs.Pattern.{Rule}
use Rattle.pegnodes.specs.Nodes as node
use Rattle.pegnodes.specs.Nodes.{Shape}
use Rattle.gramcheck.specs.Sound.{IsRanked}
use Rattle.fixpoint.proofs.ContainsLemmas.{in_first, in_later}
use Rattle.pegmatch.specs.Visits.{AsksMember, member_here, member_later, AsksAlternative, alternative_here}
use Rattle.pegmatch.specs.Visits.{alternative_later, AsksBy, Asks, Visits, first, asked}
use Rattle.packrat.specs.Offset.{MemberAt, at_first, at_later, OffsetBy, NamesBy, Names}
use Rattle.packrat.specs.Offset.{Offset, IsAskedBy}
use Rattle.packrat.proofs.WidthLemmas.{takes_width}

module _ (rules : List Rule) (start : ℕ) (nodes : List Shape) (bodies ranks x : List ℕ)
    (sound : IsRanked rules start nodes bodies ranks) where
  asks_in : {ms : List ℕ} {p m q : ℕ} → AsksMember rules nodes bodies x ms p m q → Contains ms m
  asks_in (member_here {m = m} {ms = ms}) = in_first m ms
  asks_in (member_later {k = k} {m = m} {ms = ms} t a) = in_later k m ms (asks_in a)

  alternative_in : {p m : ℕ} {ms : List ℕ} → AsksAlternative rules nodes bodies x p ms m → Contains ms m
  alternative_in (alternative_here {m = m} {ms = ms}) = in_first m ms
  alternative_in (alternative_later {k = k} {m = m} {ms = ms} t a) = in_later k m ms (alternative_in a)

  -- a member after members of d bytes is asked for d bytes on
  member_offset : {m d : ℕ} {ms : List ℕ} {p j q : ℕ} → MemberAt nodes bodies m ms d
      → AsksMember rules nodes bodies x ms p j q → m ≡ j → q ≡ p + d
  member_offset (at_first apart) member_here is = omega arith
  member_offset (at_first {ms = ms} apart) (member_later t a) is =
      absurd (apart (subst (Contains ms) (sym is) (asks_in a)))
  member_offset (at_later apart width at) member_here is = absurd (apart is)
  member_offset (at_later {k = k} {w = w} {d = d} apart width at) (member_later {p = p} {r = r} {q = q} t a) is =
      let here : r ≡ p + w = takes_width rules start nodes bodies ranks x sound k w p r width t in
      let there : q ≡ r + d = member_offset at a is in
      omega arith

  offset_by : (shape : Shape) (n p m q d : ℕ) → OffsetBy nodes bodies shape n m d
      → AsksBy rules nodes bodies x shape n p m q → q ≡ p + d
  offset_by node.Any n p m q d o a = absurd a
  offset_by (node.Bytes bs) n p m q d o a = absurd a
  offset_by (node.Set s) n p m q d o a = absurd a
  offset_by (node.Name id) n p m q d o a = omega (arith, o.1, a.1)
  offset_by (node.Seq ms) n p m q d o a = member_offset o a refl
  offset_by (node.Choice ms) n p m q d o a = omega (arith, o.1, a.1)
  offset_by (node.Star k) n p m q d o a = elim a [ inl h ↦ omega (arith, o.1, h.1) | inr h ↦ absurd (o.2 h.0) ]
  offset_by (node.Plus k s) n p m q d o a = elim a [ inl h ↦ omega (arith, o.1, h.1) | inr h ↦ absurd (o.2 h.0) ]
  offset_by (node.Opt k) n p m q d o a = omega (arith, o.1, a.1)
  offset_by (node.And k) n p m q d o a = omega (arith, o.1, a.1)
  offset_by (node.Not k) n p m q d o a = omega (arith, o.1, a.1)
  offset_by (node.Act t) n p m q d o a = absurd a
  offset_by node.Open n p m q d o a = absurd a
  offset_by node.Close n p m q d o a = absurd a

  names_by : (shape : Shape) (n p m q : ℕ) → AsksBy rules nodes bodies x shape n p m q → NamesBy nodes bodies shape n m
  names_by node.Any n p m q a = absurd a
  names_by (node.Bytes bs) n p m q a = absurd a
  names_by (node.Set s) n p m q a = absurd a
  names_by (node.Name id) n p m q a = a.0
  names_by (node.Seq ms) n p m q a = asks_in a
  names_by (node.Choice ms) n p m q a = alternative_in a.0
  names_by (node.Star k) n p m q a = elim a [ inl h ↦ inl h.0 | inr h ↦ inr h.0 ]
  names_by (node.Plus k s) n p m q a = elim a [ inl h ↦ inl h.0 | inr h ↦ inr h.0 ]
  names_by (node.Opt k) n p m q a = a.0
  names_by (node.And k) n p m q a = a.0
  names_by (node.Not k) n p m q a = a.0
  names_by (node.Act t) n p m q a = absurd a
  names_by node.Open n p m q a = absurd a
  names_by node.Close n p m q a = absurd a

  pub asker_names : (n p m q : ℕ) → Asks rules nodes bodies x n p m q → Names nodes bodies n m
  asker_names n p m q a = record { shape = a.shape; at = a.at; by = names_by a.shape n p m q a.by }

  -- who asks for a marked node is its asker, at its distance
  pub offset_asks : (n d m i p q : ℕ) → Offset nodes bodies start n d m → Asks rules nodes bodies x i p m q
      → (i ≡ n) × (q ≡ p + d)
  offset_asks n d m i p q o a =
      let is : i ≡ n = o.only i (asker_names i p m q a) in
      let at : slice_get nodes n ≡ Some a.shape = subst (λ v. slice_get nodes v ≡ Some a.shape) is a.at in
      let same : o.shape ≡ a.shape = cc (o.at, at) in
      let by : AsksBy rules nodes bodies x a.shape n p m q =
      subst (λ v. AsksBy rules nodes bodies x a.shape v p m q) is a.by in
      (is, offset_by a.shape n p m q d (subst (λ v. OffsetBy nodes bodies v n m d) same o.by) by)

  pub asked_by_one : {m q : ℕ} → Visits rules nodes bodies x start m q → (n d : ℕ)
      → Offset nodes bodies start n d m → IsAskedBy rules start nodes bodies x n d m q
  asked_by_one (first h) n d o = absurd (o.not_root h)
  asked_by_one (asked {n = i} {p = p} {m = m} {q = q} v a) n d o =
      let is = offset_asks n d m i p q o a in
      record {
        position = p;
        distance = is.1;
        visited = subst (λ w. Visits rules nodes bodies x start w p) is.0 v;
        asks = subst (λ w. Asks rules nodes bodies x w p m q) is.0 a;
        only = λ j r b. let also = offset_asks n d m j r q o b in (also.0, omega (arith, also.1, is.1));
      }
