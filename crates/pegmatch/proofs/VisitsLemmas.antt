-- What an evaluation asks for gives an outcome, and looks no further than the evaluation does.
-- Serves: visits_are_within; Packrat::match_unit of packrat; farthest_failure of matchfailure
use Rattle.std.proofs.Common.{◌≡◌, inl, inr, ℕ, ◌≤◌, max, List, Some, refl, sym, ap, subst, arith}
use Rattle.std.specs.Prelude.{slice_get}
use Rattle.pegread.specs.Pattern as expr
use Rattle.pegread.specs.Pattern.{Pattern, Patterns, Rule, body_of}
use Rattle.pegnodes.specs.Nodes as node
use Rattle.pegnodes.specs.Nodes.{Shape, Spells, spells_star, SpellAll, spell_more}
use Rattle.gramcheck.specs.Outcome.{Outcome, Fails, Takes, Gives, name, seq, choice, opt_takes, opt_none, star_none}
use Rattle.gramcheck.specs.Outcome.{star_more, plus_fails, plus_takes, and_takes, and_fails, not_takes, not_fails}
use Rattle.gramcheck.specs.Outcome.{GivesAll, one_fails, rest_fails, rest_takes, GivesFirst, first_takes, first_fails}
use Rattle.gramcheck.specs.Sound.{IsRanked}
use Rattle.gramcheck.proofs.OneOutcomeLemmas.{gives_same}
use Rattle.gramcheck.proofs.LongerInputLemmas.{ends_by}
use Rattle.pegnodes.proofs.HasShapeLemmas.{has_shape}
use Rattle.pegmatch.specs.Visits.{NodeGives, NodeTakes, AsksMember, member_here, member_later, AsksAlternative}
use Rattle.pegmatch.specs.Visits.{alternative_here, alternative_later, AsksBy, Asks, Visits, first, asked}
use Rattle.pegmatch.proofs.GivesLemmas.{is_name}
use Rattle.pegmatch.proofs.NodeGivesLemmas.{gives_as}

module _ (rules : List Rule) (start : ℕ) (nodes : List Shape) (bodies ranks x : List ℕ)
    (sound : IsRanked rules start nodes bodies ranks) where
  -- node m gives an outcome at q, which looks no further than k; q is no later than p and k
  pub record GivesWithin (m q p k : ℕ) : Type 0 where
    pub outcome : Outcome
    pub looked : ℕ
    pub gives : NodeGives rules nodes bodies x m q outcome looked
    pub less : looked ≤ k
    pub near : q ≤ max p k

  gives_this : {m p k j : ℕ} {o : Outcome} {e : Pattern} → Spells rules nodes m e → Gives rules x e p o j → j ≤ k
      → GivesWithin m p p k
  gives_this {m = m} {p = p} {k = k} {j = j} {o = o} {e = e} s d le =
      record {
        outcome = o;
        looked = j;
        gives = record { expr = e; spelled = s; gives = d };
        less = le;
        near = omega arith;
      }

  as_own : {n p k : ℕ} {o : Outcome} {e : Pattern} → Spells rules nodes n e → NodeGives rules nodes bodies x n p o k
      → Gives rules x e p o k
  as_own s d = gives_as rules nodes sound.defined bodies x s d

  -- later on, where what came before took what is between p and r
  gives_further : (m q p r j k l : ℕ) → r ≤ max p j → GivesWithin m q r k → l ≡ max j k → GivesWithin m q p l
  gives_further m q p r j k l le w is =
      record {
        outcome = w.outcome;
        looked = w.looked;
        gives = w.gives;
        less = omega (arith, w.less);
        near = omega (arith, w.near);
      }

  member_gives : {ms : List ℕ} {p m q : ℕ} → AsksMember rules nodes bodies x ms p m q
      → (es : Patterns) (o : Outcome) (k : ℕ) → SpellAll rules nodes ms es → GivesAll rules x es p o k
      → GivesWithin m q p k
  member_gives member_here es o k (spell_more s ss) (one_fails d) = gives_this s d (omega arith)
  member_gives member_here es o k (spell_more s ss) (rest_fails d c) = gives_this s d (omega arith)
  member_gives member_here es o k (spell_more s ss) (rest_takes d c) = gives_this s d (omega arith)
  member_gives (member_later t a) es o k (spell_more s ss) (one_fails d) =
      absurd (let h = gives_same rules x d (as_own s t.gives) in cc)
  member_gives (member_later {r = r} t a) es o l (spell_more {ps = rest} s ss)
      (rest_fails {q = q} {j = j} {k = k} d c) =
      let h = gives_same rules x d (as_own s t.gives) in
      let is : q ≡ r = cc in
      gives_further _ _ _ r _ _ _ (ends_by rules x (as_own s t.gives))
      (member_gives a rest Fails k ss (subst (λ v. GivesAll rules x rest v Fails k) is c))
      (ap (λ v. max v k) h.looked)
  member_gives (member_later {r = r} t a) es o l (spell_more {ps = rest} s ss)
      (rest_takes {q = q} {r = z} {j = j} {k = k} {fs = fs} d c) =
      let h = gives_same rules x d (as_own s t.gives) in
      let is : q ≡ r = cc in
      gives_further _ _ _ r _ _ _ (ends_by rules x (as_own s t.gives))
      (member_gives a rest (Takes z fs) k ss (subst (λ v. GivesAll rules x rest v (Takes z fs) k) is c))
      (ap (λ v. max v k) h.looked)

  alternative_gives : {p m : ℕ} {ms : List ℕ} → AsksAlternative rules nodes bodies x p ms m
      → (es : Patterns) (o : Outcome) (k : ℕ) → SpellAll rules nodes ms es → GivesFirst rules x es p o k
      → GivesWithin m p p k
  alternative_gives alternative_here es o k (spell_more s ss) (first_takes d) = gives_this s d (omega arith)
  alternative_gives alternative_here es o k (spell_more s ss) (first_fails d c) = gives_this s d (omega arith)
  alternative_gives (alternative_later f a) es o k (spell_more s ss) (first_takes d) =
      absurd (let h = gives_same rules x d (as_own s f.gives) in cc)
  alternative_gives (alternative_later {m = m} f a) es o l (spell_more {ps = rest} s ss)
      (first_fails {p = p} {j = j} {k = k} d c) =
      gives_further _ _ p p j k _ (omega arith) (alternative_gives a rest o k ss c) refl

  opt_asks : {m p k : ℕ} {o : Outcome} {e : Pattern} → Spells rules nodes m e → Gives rules x (expr.Opt e) p o k
      → GivesWithin m p p k
  opt_asks s (opt_takes d) = gives_this s d (omega arith)
  opt_asks s (opt_none d) = gives_this s d (omega arith)

  and_asks : {m p k : ℕ} {o : Outcome} {e : Pattern} → Spells rules nodes m e → Gives rules x (expr.And e) p o k
      → GivesWithin m p p k
  and_asks s (and_takes d) = gives_this s d (omega arith)
  and_asks s (and_fails d) = gives_this s d (omega arith)

  not_asks : {m p k : ℕ} {o : Outcome} {e : Pattern} → Spells rules nodes m e → Gives rules x (expr.Not e) p o k
      → GivesWithin m p p k
  not_asks s (not_takes d) = gives_this s d (omega arith)
  not_asks s (not_fails d) = gives_this s d (omega arith)

  plus_asks : {m p k : ℕ} {o : Outcome} {e : Pattern} → Spells rules nodes m e → Gives rules x (expr.Plus e) p o k
      → GivesWithin m p p k
  plus_asks s (plus_fails d) = gives_this s d (omega arith)
  plus_asks s (plus_takes d c) = gives_this s d (omega arith)

  star_asks : {m p k : ℕ} {o : Outcome} {e : Pattern} → Spells rules nodes m e → Gives rules x (expr.Star e) p o k
      → GivesWithin m p p k
  star_asks s (star_none d) = gives_this s d (omega arith)
  star_asks s (star_more d c) = gives_this s d (omega arith)

  star_again : {n m p q k : ℕ} {o : Outcome} {e : Pattern} → Spells rules nodes n (expr.Star e) → Spells rules nodes m e
      → NodeTakes rules nodes bodies x m p q →
      Gives rules x (expr.Star e) p o k → GivesWithin n q p k
  star_again sn s t (star_none d) = absurd (let h = gives_same rules x d (as_own s t.gives) in cc)
  star_again {q = r} {e = e} sn s t (star_more {q = q} {r = z} {j = j} {k = k} {fs = fs} d c) =
      let h = gives_same rules x d (as_own s t.gives) in
      let is : q ≡ r = cc in
      gives_further _ _ _ r _ _ _ (ends_by rules x (as_own s t.gives))
      (gives_this sn (subst (λ v. Gives rules x (expr.Star e) v (Takes z fs) k) is c) (omega arith))
      (ap (λ v. max v k) h.looked)

  plus_then : {n m p q k : ℕ} {o : Outcome} {e : Pattern} → Spells rules nodes n (expr.Star e) → Spells rules nodes m e
      → NodeTakes rules nodes bodies x m p q →
      Gives rules x (expr.Plus e) p o k → GivesWithin n q p k
  plus_then sn s t (plus_fails d) = absurd (let h = gives_same rules x d (as_own s t.gives) in cc)
  plus_then {q = r} {e = e} sn s t (plus_takes {q = q} {r = z} {j = j} {k = k} {fs = fs} d c) =
      let h = gives_same rules x d (as_own s t.gives) in
      let is : q ≡ r = cc in
      gives_further _ _ _ r _ _ _ (ends_by rules x (as_own s t.gives))
      (gives_this sn (subst (λ v. Gives rules x (expr.Star e) v (Takes z fs) k) is c) (omega arith))
      (ap (λ v. max v k) h.looked)

  name_asks : {m p k : ℕ} {o : Outcome} {word : List ℕ} {e : Pattern} → body_of rules word ≡ Some e
      → Spells rules nodes m e → Gives rules x (expr.Name word) p o k → GivesWithin m p p k
  name_asks {p = p} {k = k} {o = o} {e = e} body s (name {e = b} h d) =
      let is : b ≡ e = cc in
      gives_this s (subst (λ v. Gives rules x v p o k) is d) (omega arith)

  seq_asks : {ms : List ℕ} {es : Patterns} {m p q k : ℕ} {o : Outcome} → SpellAll rules nodes ms es
      → AsksMember rules nodes bodies x ms p m q → Gives rules x (expr.Seq es) p o k → GivesWithin m q p k
  seq_asks {es = es} {k = k} {o = o} ss a (seq d) = member_gives a es o k ss d

  choice_asks : {ms : List ℕ} {es : Patterns} {m p k : ℕ} {o : Outcome} → SpellAll rules nodes ms es
      → AsksAlternative rules nodes bodies x p ms m → Gives rules x (expr.Choice es) p o k → GivesWithin m p p k
  choice_asks {es = es} {k = k} {o = o} ss a (choice d) = alternative_gives a es o k ss d

  module _ (n p m q k : ℕ) (o : Outcome) (d : NodeGives rules nodes bodies x n p o k) where
    gives_at : (i j : ℕ) → m ≡ i → q ≡ j → GivesWithin i j p k → GivesWithin m q p k
    gives_at i j a b w = subst (λ v. GivesWithin v q p k) (sym a) (subst (λ v. GivesWithin i v p k) (sym b) w)

    asks_by : (shape : Shape) → slice_get nodes n ≡ Some shape → AsksBy rules nodes bodies x shape n p m q
        → GivesWithin m q p k
    asks_by node.Any h a = absurd a
    asks_by (node.Bytes bs) h a = absurd a
    asks_by (node.Set b) h a = absurd a
    asks_by (node.Name id) h a =
        let is = is_name rules start nodes bodies ranks x sound n id m (d.expr, d.spelled) h a.0 in
        gives_at m p refl a.1 (name_asks is.is is.operand (as_own is.spelled d))
    asks_by (node.Seq ms) h a =
        let like = has_shape rules nodes d.spelled (node.Seq ms) h in
        seq_asks like.2 a (subst (λ v. Gives rules x v p o k) like.1 d.gives)
    asks_by (node.Choice ms) h a =
        let like = has_shape rules nodes d.spelled (node.Choice ms) h in
        gives_at m p refl a.1 (choice_asks like.2 a.0 (subst (λ v. Gives rules x v p o k) like.1 d.gives))
    asks_by (node.Star i) h a =
        let like = has_shape rules nodes d.spelled (node.Star i) h in
        let gives : Gives rules x (expr.Star like.0) p o k = subst (λ v. Gives rules x v p o k) like.1 d.gives in
        elim a [
          | inl c ↦ gives_at i p c.0 c.1 (star_asks like.2 gives)
          | inr c ↦ gives_at n q c.0 refl (star_again (subst (Spells rules nodes n) like.1 d.spelled) like.2 c.1 gives)
        ]
    asks_by (node.Plus i j) h a =
        let like = has_shape rules nodes d.spelled (node.Plus i j) h in
        let gives : Gives rules x (expr.Plus like.0) p o k = subst (λ v. Gives rules x v p o k) like.1 d.gives in
        elim a [
          | inl c ↦ gives_at i p c.0 c.1 (plus_asks like.2 gives)
          | inr c ↦ gives_at j q c.0 refl (plus_then (spells_star like.3 like.2) like.2 c.1 gives)
        ]
    asks_by (node.Opt i) h a =
        let like = has_shape rules nodes d.spelled (node.Opt i) h in
        gives_at i p a.0 a.1 (opt_asks like.2 (subst (λ v. Gives rules x v p o k) like.1 d.gives))
    asks_by (node.And i) h a =
        let like = has_shape rules nodes d.spelled (node.And i) h in
        gives_at i p a.0 a.1 (and_asks like.2 (subst (λ v. Gives rules x v p o k) like.1 d.gives))
    asks_by (node.Not i) h a =
        let like = has_shape rules nodes d.spelled (node.Not i) h in
        gives_at i p a.0 a.1 (not_asks like.2 (subst (λ v. Gives rules x v p o k) like.1 d.gives))
    asks_by (node.Act t) h a = absurd a
    asks_by node.Open h a = absurd a
    asks_by node.Close h a = absurd a

    pub asks_within : Asks rules nodes bodies x n p m q → GivesWithin m q p k
    asks_within a = asks_by a.shape a.at a.by

  -- all that is visited looks no further than the start rule, and stands no later
  pub visits_within : {n p : ℕ} → Visits rules nodes bodies x start n p → (root k : ℕ) (o : Outcome)
      → slice_get bodies start ≡ Some root →
      NodeGives rules nodes bodies x root 0 o k → GivesWithin n p 0 k
  visits_within (first {n = n} h) root k o at d =
      let is : root ≡ n = cc in
      gives_this (subst (λ v. Spells rules nodes v d.expr) is d.spelled) d.gives (omega arith)
  visits_within (asked {n = n} {p = p} {m = m} {q = q} v a) root k o at d =
      let w = visits_within v root k o at d in
      let u = asks_within n p m q w.looked w.outcome w.gives a in
      record {
        outcome = u.outcome;
        looked = u.looked;
        gives = u.gives;
        less = omega (arith, w.less, u.less);
        near = omega (arith, w.less, w.near, u.near);
      }
