-- What an evaluation asks for: it is spelled, stands no earlier, and is lower where it stands at the same position.
-- Serves: visits_are_within; Packrat::match_unit of packrat; farthest_failure of matchfailure
use Rattle.std.proofs.Common.{◌≡◌, inl, inr, ℕ, ◌<◌, ◌≤◌, List, length, Some, refl, sym, subst, arith}
use Rattle.std.specs.Prelude.{slice_get, Contains}
use Rattle.pegread.specs.Pattern as expr
use Rattle.pegread.specs.Pattern.{Patterns, Rule}
use Rattle.pegnodes.specs.Nodes as node
use Rattle.pegnodes.specs.Nodes.{Shape, Spells, spells_star, SpellAll, spell_more}
use Rattle.gramcheck.specs.Ranks.{IsNullNode, NodeStep, FrontNode, front_first, front_later, to_body, to_alternative}
use Rattle.gramcheck.specs.Ranks.{to_member, to_starred, to_repeated, to_optional, to_asserted, to_denied}
use Rattle.gramcheck.specs.Sound.{IsRanked}
use Rattle.fixpoint.proofs.ContainsLemmas.{in_first, in_later}
use Rattle.pegnodes.proofs.HasShapeLemmas.{has_shape}
use Rattle.pegnodes.proofs.NodeSpellsLemmas.{is_there}
use Rattle.gramcheck.proofs.NullIfLemmas.{takes_forward, null_of}
use Rattle.pegmatch.proofs.OperandLemmas.{at, falls_to}
use Rattle.pegmatch.specs.KeptEvents.{SpellsSome}
use Rattle.pegmatch.specs.Visits.{NodeTakes, AsksMember, member_here, member_later, AsksAlternative, alternative_here}
use Rattle.pegmatch.specs.Visits.{alternative_later, AsksBy, Asks, Visits, first, asked}

-- a name asks for its body
pub asks_body : (rules : List Rule) (nodes : List Shape) (bodies x : List ℕ) (n p id b : ℕ)
    → slice_get nodes n ≡ Some (node.Name id) → slice_get bodies id ≡ Some b → Asks rules nodes bodies x n p b p
asks_body rules nodes bodies x n p id b at body = record { shape = node.Name id; at = at; by = (body, refl) }

module _ (rules : List Rule) (start : ℕ) (nodes : List Shape) (bodies ranks x : List ℕ)
    (sound : IsRanked rules start nodes bodies ranks) where
  -- what node n at p asks for: node m at q
  pub record LeadsTo (n p m q : ℕ) : Type 0 where
    pub spelled : SpellsSome rules nodes m
    pub low : p ≤ q
    pub high : q ≤ length x
    pub left : q ≡ p → NodeStep rules nodes bodies n m

  pub record Onward (k p r : ℕ) : Type 0 where
    pub low : p ≤ r
    pub high : r ≤ length x
    pub null : r ≡ p → IsNullNode rules nodes bodies k

  pub goes_onward : (k p r : ℕ) → p ≤ length x → NodeTakes rules nodes bodies x k p r → Onward k p r
  goes_onward k p r le t =
      let on = takes_forward rules x p r t.looked t.gives.expr t.events t.gives.gives le in
      record {
        low = on.0;
        high = on.1;
        null = λ is. (
          t.gives.expr,
          t.gives.spelled,
          null_of rules x t.gives.gives le is,
        );
      }

  -- of members those asked for
  record MemberLeads (ms : List ℕ) (p m q : ℕ) : Type 0 where
    pub spelled : SpellsSome rules nodes m
    pub low : p ≤ q
    pub high : q ≤ length x
    pub front : q ≡ p → FrontNode rules nodes bodies ms m

  member_leads : {ms : List ℕ} {p m q : ℕ} → AsksMember rules nodes bodies x ms p m q → (ps : Patterns)
      → SpellAll rules nodes ms ps → p ≤ length x → MemberLeads ms p m q
  member_leads member_here ps (spell_more {p = e} s ss) le =
      record { spelled = (e, s); low = omega arith; high = le; front = λ is. front_first }
  member_leads (member_later {k = k} {m = m} {p = p} {r = r} {q = q} t a) ps (spell_more {ps = rest} s ss) le =
      let on = goes_onward k p r le t in
      let later = member_leads a rest ss on.high in
      record {
        spelled = later.spelled;
        low = omega (arith, on.low, later.low);
        high = later.high;
        front = λ is. front_later (on.null (omega (arith, on.low, later.low, is)))
            (later.front (omega (arith, on.low, later.low, is)));
      }

  alternative_leads : {p m : ℕ} {ms : List ℕ} → AsksAlternative rules nodes bodies x p ms m → (ps : Patterns)
      → SpellAll rules nodes ms ps → SpellsSome rules nodes m × Contains ms m
  alternative_leads (alternative_here {m = m} {ms = ms}) ps (spell_more {p = e} s ss) = ((e, s), in_first m ms)
  alternative_leads (alternative_later {k = k} {m = m} {ms = ms} f a) ps (spell_more {ps = rest} s ss) =
      let later = alternative_leads a rest ss in (later.0, in_later k m ms later.1)

  module _ (n p m q : ℕ) (s : SpellsSome rules nodes n) (le : p ≤ length x) where
    leads_here : SpellsSome rules nodes m → q ≡ p → NodeStep rules nodes bodies n m → LeadsTo n p m q
    leads_here t is step = record { spelled = t; low = omega arith; high = omega arith; left = λ _. step }

    leads_by : (shape : Shape) → slice_get nodes n ≡ Some shape → AsksBy rules nodes bodies x shape n p m q
        → LeadsTo n p m q
    leads_by node.Any h a = absurd a
    leads_by (node.Bytes bs) h a = absurd a
    leads_by (node.Set b) h a = absurd a
    leads_by (node.Name id) h a =
        let there = sound.spelled.spelled id m a.0 in
        leads_here (there.0, there.2) a.1 (to_body h a.0)
    leads_by (node.Seq ms) h a =
        let like = has_shape rules nodes s.1 (node.Seq ms) h in
        let l = member_leads a like.0 like.2 le in
        record { spelled = l.spelled; low = l.low; high = l.high; left = λ is. to_member h (l.front is) }
    leads_by (node.Choice ms) h a =
        let like = has_shape rules nodes s.1 (node.Choice ms) h in
        let l = alternative_leads a.0 like.0 like.2 in
        leads_here l.0 a.1 (to_alternative h l.1)
    leads_by (node.Star k) h a =
        let like = has_shape rules nodes s.1 (node.Star k) h in
        elim a [
          | inl o ↦ leads_here (like.0, subst (λ v. Spells rules nodes v like.0) (sym o.0) like.2) o.1
              (to_starred (subst (λ v. slice_get nodes n ≡ Some (node.Star v)) (sym o.0) h))
          | inr o ↦
              let on = goes_onward k p q le o.1 in
              record {
                spelled = subst (SpellsSome rules nodes) (sym o.0) s;
                low = on.low;
                high = on.high;
                left = λ is. absurd (sound.moving.star n k h (on.null is));
              }
        ]
    leads_by (node.Plus k i) h a =
        let like = has_shape rules nodes s.1 (node.Plus k i) h in
        elim a [
          | inl o ↦ leads_here (like.0, subst (λ v. Spells rules nodes v like.0) (sym o.0) like.2) o.1
              (to_repeated (subst (λ v. slice_get nodes n ≡ Some (node.Plus v i)) (sym o.0) h))
          | inr o ↦
              let on = goes_onward k p q le o.1 in
              record {
                spelled = subst (SpellsSome rules nodes) (sym o.0) (expr.Star like.0, spells_star like.3 like.2);
                low = on.low;
                high = on.high;
                left = λ is. absurd (sound.moving.plus n k i h (on.null is));
              }
        ]
    leads_by (node.Opt k) h a =
        let like = has_shape rules nodes s.1 (node.Opt k) h in
        leads_here (like.0, subst (λ v. Spells rules nodes v like.0) (sym a.0) like.2) a.1
        (to_optional (subst (λ v. slice_get nodes n ≡ Some (node.Opt v)) (sym a.0) h))
    leads_by (node.And k) h a =
        let like = has_shape rules nodes s.1 (node.And k) h in
        leads_here (like.0, subst (λ v. Spells rules nodes v like.0) (sym a.0) like.2) a.1
        (to_asserted (subst (λ v. slice_get nodes n ≡ Some (node.And v)) (sym a.0) h))
    leads_by (node.Not k) h a =
        let like = has_shape rules nodes s.1 (node.Not k) h in
        leads_here (like.0, subst (λ v. Spells rules nodes v like.0) (sym a.0) like.2) a.1
        (to_denied (subst (λ v. slice_get nodes n ≡ Some (node.Not v)) (sym a.0) h))
    leads_by (node.Act t) h a = absurd a
    leads_by node.Open h a = absurd a
    leads_by node.Close h a = absurd a

  pub leads_to : (n p m q : ℕ) → SpellsSome rules nodes n → p ≤ length x → Asks rules nodes bodies x n p m q
      → LeadsTo n p m q
  leads_to n p m q s le a = leads_by n p m q s le a.shape a.at a.by

  -- the measure of a pair
  abbrev pub height : ℕ → ℕ → ℕ
  height n p = at nodes ranks (length x) p n

  -- what is asked for is lower
  pub height_falls : (n p m q : ℕ) → SpellsSome rules nodes n → p ≤ length x → Asks rules nodes bodies x n p m q
      → height m q < height n p
  height_falls n p m q s le a =
      let l = leads_to n p m q s le a in
      falls_to rules start nodes bodies ranks sound (length x) n m p q l.spelled l.low l.high l.left

  -- a pair that is visited
  pub record IsVisited (n p : ℕ) : Type 0 where
    pub spelled : SpellsSome rules nodes n
    pub high : p ≤ length x

  pub is_visited : {n p : ℕ} → Visits rules nodes bodies x start n p → IsVisited n p
  is_visited (first {n = n} h) = let there = sound.spelled.spelled start n h in
      record { spelled = (there.0, there.2); high = omega arith }
  is_visited (asked {n = n} {p = p} {m = m} {q = q} v a) =
      let i = is_visited v in
      let l = leads_to n p m q i.spelled i.high a in
      record { spelled = l.spelled; high = l.high }

  -- a pair that is visited is of a node that is there, and of a position of the input
  pub visited_there : (n p : ℕ) → Visits rules nodes bodies x start n p → (n < length nodes) × (p ≤ length x)
  visited_there n p v = let i = is_visited v in (is_there rules nodes i.spelled.1, i.high)
