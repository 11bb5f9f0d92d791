-- What fails farthest on a text fails farthest on every longer one, if the start rule looks at less than the text.
-- Serves: same_on_longer
use Rattle.std.proofs.Common.{◌≡◌, ◌⊎◌, inl, inr, ℕ, zero, suc, ◌+◌, ◌<◌, ◌≤◌, List, [], ◌∷◌, ◌++◌, length, drop}
use Rattle.std.proofs.Common.{Some, refl, sym, ◌∙◌, ap, subst, arith, Bool, true, false, ◌==◌, if◌then◌else◌}
use Rattle.std.proofs.Common.{length-append, length-drop}
use Rattle.std.specs.Prelude.{slice_get}
use Rattle.std.proofs.lemmas.Bool.{cases_lt, eqb-true, eq-eqb}
use Rattle.std.proofs.lemmas.Option.{slice_get-get_or}
use Rattle.pegread.specs.Pattern as expr
use Rattle.pegread.specs.Pattern.{Pattern, Rule}
use Rattle.pegnodes.specs.Nodes as node
use Rattle.pegnodes.specs.Nodes.{Shape, Spells}
use Rattle.pegnodes.proofs.HasShapeLemmas.{has_shape}
use Rattle.gramcheck.specs.Outcome.{Outcome, Gives, RuleGives, compared, looked_at, bytes_take, bytes_fail}
use Rattle.gramcheck.specs.Sound.{IsRanked}
use Rattle.gramcheck.proofs.LongerInputLemmas.{gives_longer, slice_get_more}
use Rattle.gramcheck.proofs.ShorterInputLemmas.{gives_shorter}
use Rattle.pegmatch.specs.Visits.{NodeGives, NodeTakes, NodeFails, AsksMember, member_here, member_later}
use Rattle.pegmatch.specs.Visits.{AsksAlternative, alternative_here, alternative_later, AsksBy, Visits, asked}
use Rattle.pegmatch.proofs.NodeGivesLemmas.{same_node}
use Rattle.pegmatch.proofs.VisitsLemmas.{visits_within}
use Rattle.matchfailure.specs.declared.farthest.visit.Visit.{Visit}
use Rattle.matchfailure.specs.Farthest.{PartsAt, StopsBy, Outside, first_outside, asked_outside}
use Rattle.matchfailure.specs.Farthest.{FailsAt, NoneFails, IsFarthest}
use Rattle.matchfailure.proofs.FailingLeafLemmas.{get_drop}
use Rattle.matchfailure.proofs.OutsideLemmas.{is_visited}

one_more : (c b : ℕ) (k : ℕ) → c ≡ b → (if c == b then k + 1 else 1) ≡ k + 1
one_more c b k is = rw (eq-eqb c b is) refl

-- a text that has the first k bytes of a literal and not the next is compared with one byte more
parts_compared : (t bs : List ℕ) (k : ℕ) → k < length bs → k < length t
    → ((i : ℕ) → i < k → slice_get t i ≡ slice_get bs i) → (slice_get t k ≡ slice_get bs k → ⊥)
    → compared t bs ≡ k + 1
parts_compared t [] k lt within agree differ = absurd (omega arith)
parts_compared [] (b ∷ bs) k lt within agree differ = absurd (omega arith)
parts_compared (c ∷ t) (b ∷ bs) zero lt within agree differ = by (c == b) refl
  where
    by : (v : Bool) → (c == b) ≡ v → (if c == b then compared t bs + 1 else 1) ≡ 0 + 1
    by true is = absurd (differ (ap Some (eqb-true c b is)))
    by false is = rw is refl
parts_compared (c ∷ t) (b ∷ bs) (suc k) lt within agree differ =
    let same : c ≡ b = cc (agree 0 (omega arith)) in
    let rest = parts_compared t bs k (omega arith) (omega arith) (λ i less. agree (suc i) (omega arith)) differ in
    one_more c b (compared t bs) same ∙ (omega (arith, rest))

-- a literal that goes on after it is compared to its end
all_compared : (t bs : List ℕ) → length t < length bs → ((i : ℕ) → i < length t → slice_get t i ≡ slice_get bs i)
    → compared t bs ≡ length t
all_compared t [] lt agree = absurd (omega arith)
all_compared [] (b ∷ bs) lt agree = refl
all_compared (c ∷ t) (b ∷ bs) lt agree =
    let same : c ≡ b = cc (agree 0 (omega arith)) in
    let rest = all_compared t bs (omega arith) (λ i less. agree (suc i) (omega arith)) in
    one_more c b (compared t bs) same ∙ (omega (arith, rest))

looked_of : (p n k : ℕ) → n ≡ suc k → looked_at p n ≡ p + suc k
looked_of p n k is = rw is refl

bytes_looked : {rules : List Rule} {x bs : List ℕ} {p k : ℕ} {o : Outcome} → Gives rules x (expr.Bytes bs) p o k
    → k ≡ looked_at p (compared (drop p x) bs)
bytes_looked (bytes_take h) = refl
bytes_looked (bytes_fail h) = refl

-- a comparison that looks at less than the text stops within what it looked at
module _ (x bs : List ℕ) (p k most : ℕ) (parts : PartsAt x p bs k) (here : p < length x) (less : most < length x)
    (looked : looked_at p (compared (drop p x) bs) ≤ most) where
  text_long : length (drop p x) + p ≡ length x
  text_long = let l = length-drop p x in omega (arith, l)

  texts_agree : (i : ℕ) → i < k → slice_get (drop p x) i ≡ slice_get bs i
  texts_agree i lt = get_drop x p i ∙ parts.agree i lt

  to_the_end : length (drop p x) ≤ k → p + k < most
  to_the_end past =
      let whole = all_compared (drop p x) bs (omega (arith, parts.inside)) (λ i lt. texts_agree i (omega arith)) in
      let some : (length (drop p x) ≡ 0) ⊎ (0 < length (drop p x)) = inr (omega (arith, text_long)) in
      absurd (by (length (drop p x)) refl whole)
    where
      by : (n : ℕ) → length (drop p x) ≡ n → compared (drop p x) bs ≡ length (drop p x) → ⊥
      by zero is whole = omega (arith, is, text_long)
      by (suc n) is whole =
          let l = looked_of p (compared (drop p x) bs) n (whole ∙ is) in omega (arith, is, text_long, l)

  stops_inside : k < length (drop p x) → p + k < most
  stops_inside lt =
      let one = parts_compared (drop p x) bs k parts.inside lt texts_agree
      (λ is. parts.differ (sym (get_drop x p k) ∙ is)) in
      let l = looked_of p (compared (drop p x) bs) k (omega (arith, one)) in omega (arith, l)

  pub stops_before : p + k < most
  stops_before = elim (cases_lt k (length (drop p x))) [ inl lt ↦ stops_inside lt | inr past ↦ to_the_end past ]

module _ (rules : List Rule) (start : ℕ) (nodes : List Shape) (bodies ranks : List ℕ)
    (sound : IsRanked rules start nodes bodies ranks) where
  -- what looks at less than `limit` bytes of x is the same on z
  module _ (x z : List ℕ) (limit most root : ℕ) (start_gives : Outcome) (at : slice_get bodies start ≡ Some root)
      (gives : NodeGives rules nodes bodies x root 0 start_gives most) (less : most < limit) (long : limit ≤ length x)
      (same : (i : ℕ) → i < limit → slice_get z i ≡ slice_get x i)
      (also : (e : Pattern) (p k : ℕ) (o : Outcome) → p < limit → k < limit → Gives rules x e p o k
      → Gives rules z e p o k) where
    abbrev Seen : ℕ → ℕ → Type 0
    Seen n p = Visits rules nodes bodies x start n p

    looks_at_most : {n p k : ℕ} {o : Outcome} → Seen n p → NodeGives rules nodes bodies x n p o k
        → (k ≤ most) × (p ≤ most)
    looks_at_most v d =
        let w = visits_within rules start nodes bodies ranks x sound v root most start_gives at gives in
        let h = same_node rules nodes sound.defined bodies x d w.gives in
        (omega (arith, h.looked, w.less), omega (arith, w.near))

    gives_too : {n p k : ℕ} {o : Outcome} → Seen n p → NodeGives rules nodes bodies x n p o k
        → NodeGives rules nodes bodies z n p o k
    gives_too v d =
        let b = looks_at_most v d in
        record {
          expr = d.expr;
          spelled = d.spelled;
          gives = also d.expr _ _ _ (let low = b.1 in omega (arith, low)) (let low = b.0 in omega (arith, low)) d.gives;
        }

    takes_too : {n p q : ℕ} → Seen n p → NodeTakes rules nodes bodies x n p q → NodeTakes rules nodes bodies z n p q
    takes_too v t = record { events = t.events; looked = t.looked; gives = gives_too v t.gives }

    fails_too : {n p : ℕ} → Seen n p → NodeFails rules nodes bodies x n p → NodeFails rules nodes bodies z n p
    fails_too v t = record { looked = t.looked; gives = gives_too v t.gives }

    member_too : {ms : List ℕ} {p m q : ℕ} → ((k r : ℕ) → AsksMember rules nodes bodies x ms p k r → Seen k r)
        → AsksMember rules nodes bodies x ms p m q → AsksMember rules nodes bodies z ms p m q
    member_too seen member_here = member_here
    member_too seen (member_later {k = k} {p = p} t a) =
        member_later (takes_too (seen k p member_here) t) (member_too (λ i j b. seen i j (member_later t b)) a)

    alternative_too : {p : ℕ} {ms : List ℕ} {m : ℕ} → ((k : ℕ) → AsksAlternative rules nodes bodies x p ms k → Seen k p)
        → AsksAlternative rules nodes bodies x p ms m → AsksAlternative rules nodes bodies z p ms m
    alternative_too seen alternative_here = alternative_here
    alternative_too seen (alternative_later {k = k} f a) =
        alternative_later (fails_too (seen k alternative_here) f)
        (alternative_too (λ i b. seen i (alternative_later f b)) a)

    asks_by : {n p : ℕ} → Seen n p → (shape : Shape) → slice_get nodes n ≡ Some shape → (m q : ℕ)
        → AsksBy rules nodes bodies x shape n p m q → AsksBy rules nodes bodies z shape n p m q
    asks_by v node.Any h m q a = absurd a
    asks_by v (node.Bytes bs) h m q a = absurd a
    asks_by v (node.Set b) h m q a = absurd a
    asks_by v (node.Name id) h m q a = a
    asks_by v (node.Seq ms) h m q a =
        member_too (λ k r b. asked v (record { shape = node.Seq ms; at = h; by = b })) a
    asks_by v (node.Choice ms) h m q a = (
      alternative_too (λ k b. asked v (record { shape = node.Choice ms; at = h; by = (b, refl) })) a.0,
      a.1,
    )
    asks_by {n = n} {p = p} v (node.Star k) h m q a = elim a [
      | inl is ↦ inl is
      | inr is ↦ inr (is.0, takes_too (asked v (record { shape = node.Star k; at = h; by = inl (refl, refl) })) is.1)
    ]
    asks_by {n = n} {p = p} v (node.Plus k j) h m q a = elim a [
      | inl is ↦ inl is
      | inr is ↦ inr (is.0, takes_too (asked v (record { shape = node.Plus k j; at = h; by = inl (refl, refl) })) is.1)
    ]
    asks_by v (node.Opt k) h m q a = a
    asks_by v (node.And k) h m q a = a
    asks_by v (node.Not k) h m q a = a
    asks_by v (node.Act t) h m q a = absurd a
    asks_by v node.Open h m q a = absurd a
    asks_by v node.Close h m q a = absurd a

    outside_too : {n p : ℕ} → Outside rules nodes bodies x start n p → Outside rules nodes bodies z start n p
    outside_too (first_outside h) = first_outside h
    outside_too (asked_outside {m = m} {q = q} o a) =
        asked_outside (outside_too o)
        (a.0, record { shape = a.1.shape; at = a.1.at; by = asks_by (is_visited o) a.1.shape a.1.at m q a.1.by })

    -- an outcome of an evaluation that is visited
    stands_within : {n p : ℕ} → Seen n p → p < length x
    stands_within v = let w = visits_within rules start nodes bodies ranks x sound v root most start_gives at gives in
        omega (arith, w.near)

    stops_by : {n p : ℕ} → Seen n p → (shape : Shape) → slice_get nodes n ≡ Some shape → (f : ℕ) → StopsBy x shape p f
        → StopsBy z shape p f
    stops_by {p = p} v node.Any h f s =
        absurd (let in_text = slice_get-get_or x p 0 (stands_within v) in cc (in_text, s.0))
    stops_by {n = n} {p = p} v (node.Bytes bs) h f s =
        let w = visits_within rules start nodes bodies ranks x sound v root most start_gives at gives in
        let is = has_shape rules nodes w.gives.spelled (node.Bytes bs) h in
        let looked = bytes_looked (subst (λ e. Gives rules x e p w.outcome w.looked) is w.gives.gives) in
        let low = stops_before x bs p s.0 most s.1 (stands_within v) (omega arith) (omega (arith, looked, w.less)) in (
          s.0,
          record {
            inside = s.1.inside;
            agree = λ i lt. same (p + i) (omega (arith, low)) ∙ s.1.agree i lt;
            differ = λ e. s.1.differ (sym (same (p + s.0) (omega (arith, low))) ∙ e);
          },
          s.2,
        )
    stops_by {p = p} v (node.Set b) h f s =
        let w = visits_within rules start nodes bodies ranks x sound v root most start_gives at gives in
        let there = same p (omega (arith, w.near)) in
        (λ c is. s.0 c (sym there ∙ is), s.1)
    stops_by v (node.Name id) h f s = absurd s
    stops_by v (node.Seq ms) h f s = absurd s
    stops_by v (node.Choice ms) h f s = absurd s
    stops_by v (node.Star k) h f s = absurd s
    stops_by v (node.Plus k j) h f s = absurd s
    stops_by v (node.Opt k) h f s = absurd s
    stops_by v (node.And k) h f s = absurd s
    stops_by v (node.Not k) h f s = absurd s
    stops_by v (node.Act t) h f s = absurd s
    stops_by v node.Open h f s = absurd s
    stops_by v node.Close h f s = absurd s

    pub fail_too : (n p f : ℕ) → FailsAt rules nodes bodies x start n p f → FailsAt rules nodes bodies z start n p f
    fail_too n p f h = (
      outside_too h.0,
      record { shape = h.1.shape; at = h.1.at; by = stops_by (is_visited h.0) h.1.shape h.1.at f h.1.by },
    )

  -- both ways between a text and a longer one
  module _ (x y : List ℕ) (k : ℕ) (o : Outcome) (gives : RuleGives rules start x o k) (less : k < length x) where
    record Rooted : Type 0 where
      pub root : ℕ
      pub at : slice_get bodies start ≡ Some root
      pub node : NodeGives rules nodes bodies x root 0 o k

    start_rooted : Rooted
    start_rooted =
        let there = slice_get-get_or bodies start 0 (omega (arith, sound.start_is_rule, sound.spelled.count)) in
        let s = sound.spelled.spelled start _ there in
        let is : gives.body ≡ s.0 = cc (gives.rule, s.1) in
        record {
          root = _;
          at = there;
          node = record { expr = s.0; spelled = s.2; gives = subst (λ e. Gives rules x e 0 o k) is gives.gives };
        }

    on_longer : NodeGives rules nodes bodies (x ++ y) start_rooted.root 0 o k
    on_longer = record {
      expr = start_rooted.node.expr;
      spelled = start_rooted.node.spelled;
      gives = gives_longer rules x y start_rooted.node.gives (omega arith) less;
    }

    pub to_longer : (n p f : ℕ) → FailsAt rules nodes bodies x start n p f
        → FailsAt rules nodes bodies (x ++ y) start n p f
    to_longer = fail_too x (x ++ y) (length x) k start_rooted.root o start_rooted.at start_rooted.node less
        (omega arith)
        (λ i lt. slice_get_more x y i lt) (λ e p i c low short d. gives_longer rules x y d low short)

    pub to_shorter : (n p f : ℕ) → FailsAt rules nodes bodies (x ++ y) start n p f
        → FailsAt rules nodes bodies x start n p f
    to_shorter = fail_too (x ++ y) x (length x) k start_rooted.root o start_rooted.at on_longer less
        (let l = length-append x y in omega (arith, l)) (λ i lt. sym (slice_get_more x y i lt))
        (λ e p i c low short d. gives_shorter rules x y d short)

    pub far_on_longer : (f : ℕ) (vs : List Visit) → IsFarthest rules nodes bodies x start f vs
        → IsFarthest rules nodes bodies (x ++ y) start f vs
    far_on_longer f vs far = record {
      some = (far.some.0, far.some.1, to_longer far.some.0 far.some.1 f far.some.2);
      none_further = λ n p h fails. far.none_further n p h (to_shorter n p h fails);
      ordered = far.ordered;
      exact = λ v. (
        λ h. to_longer v.node v.position f ((far.exact v).0 h),
        λ h. (far.exact v).1 (to_shorter v.node v.position f h),
      );
    }

    pub none_on_longer : NoneFails rules nodes bodies x start → NoneFails rules nodes bodies (x ++ y) start
    none_on_longer none n p f fails = none n p f (to_shorter n p f fails)
