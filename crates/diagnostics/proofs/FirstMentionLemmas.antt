-- The first of some mentions, one before the others.
-- Serves: first_mention, explain_note
use Rattle.std.proofs.Common.{◌≡◌, ℕ, zero, suc, ◌<◌, ◌≤◌, Option, Some, None, List, [], ◌∷◌, refl}
use Rattle.std.proofs.Common.{sym, ap, ◌∙◌, arith, ◌⊎◌, inl, inr, ⊎_elim}
use Rattle.std.proofs.lemmas.Bool.{cases_lt, cases_order}
use Rattle.std.specs.Prelude.{MatchOption, slice_get}
use Rattle.ruletable.specs.declared.table.NameCase.{NameCase}
use Rattle.diagnostics.specs.BodyMentions.{MentionedAt}
use Rattle.diagnostics.specs.DefinitionHeads.{DefinedAt}
use Rattle.diagnostics.specs.FirstMentions.{IsFirstIfAny, IsFirstMention, NoneStands, RuleMention, rule_standing_at}

module _ (names : NameCase) (definitions : List DefinedAt) where
  abbrev stands-in : MentionedAt → Option DefinedAt
  stands-in m = rule_standing_at names definitions m.within

  abbrev Earlier : DefinedAt → ℕ → DefinedAt → ℕ → Type 0
  Earlier a i b k = (a.start < b.start) ⊎ ((a.start ≡ b.start) × (i ≤ k))

  module _ (m : MentionedAt) (ms : List MentionedAt) where
    none-more : stands-in m ≡ None → NoneStands names definitions ms → NoneStands names definitions (m ∷ ms)
    none-more is h zero n r at stands =
        let same : m ≡ n = cc at in
        let both : Some r ≡ None = sym stands ∙ ap stands-in (sym same) ∙ is in
        absurd (cc both)
    none-more is h (suc k) n r at stands = h k n r at stands

    -- one that is after the first mention
    after-first : (o : RuleMention) (h : IsFirstMention names definitions ms o)
        → ((r : DefinedAt) → stands-in m ≡ Some r → o.rule.start < r.start) → (k : ℕ) (n : MentionedAt) (r : DefinedAt)
        → slice_get (m ∷ ms) k ≡ Some n → stands-in n ≡ Some r → Earlier o.rule (suc h.position) r k
    after-first o h less zero n r at stands =
        let same : m ≡ n = cc at in
        inl (less r (ap stands-in same ∙ stands))
    after-first o h less (suc k) n r at stands =
        ⊎_elim (λ lt. inl lt) (λ e. inr (e.0, (let le = e.1 in omega (arith, le)))) (h.first k n r at stands)

    first-after : (o : RuleMention) → IsFirstMention names definitions ms o
        → ((r : DefinedAt) → stands-in m ≡ Some r → o.rule.start < r.start)
        → IsFirstMention names definitions (m ∷ ms) o
    first-after o h less = record {
      position = suc h.position;
      there = h.there;
      stands = h.stands;
      first = after-first o h less;
    }

    -- the first mention of all, where those after it stand in no rule before its own
    module _ (own : DefinedAt) (is : stands-in m ≡ Some own)
        (others : (k : ℕ) (n : MentionedAt) (r : DefinedAt) → slice_get ms k ≡ Some n → stands-in n ≡ Some r
        → own.start ≤ r.start) where
      before-all : (k : ℕ) (n : MentionedAt) (r : DefinedAt) → slice_get (m ∷ ms) k ≡ Some n → stands-in n ≡ Some r
          → Earlier own 0 r k
      before-all zero n r at stands =
          let same : m ≡ n = cc at in
          let both : Some own ≡ Some r = sym is ∙ ap stands-in same ∙ stands in
          let one : own ≡ r = cc both in
          inr (ap (λ (d : DefinedAt). d.start) one, omega arith)
      before-all (suc k) n r at stands =
          let le = others k n r at stands in
          ⊎_elim (λ e. inr (e, omega arith)) (λ ways. ⊎_elim (λ lt. inl lt) (λ gt. absurd (omega (arith, le, gt))) ways)
          (cases_order own.start r.start)

      first-here : IsFirstMention names definitions (m ∷ ms) (record { rule = own; mention = m })
      first-here = record { position = 0; there = refl; stands = is; first = before-all }

    not-before : (own : DefinedAt) (o : RuleMention) → own.start ≤ o.rule.start
        → IsFirstMention names definitions ms o → (k : ℕ) (n : MentionedAt) (r : DefinedAt)
        → slice_get ms k ≡ Some n → stands-in n ≡ Some r → own.start ≤ r.start
    not-before own o le h k n r at stands =
        ⊎_elim (λ lt. omega (arith, le, lt)) (λ e. (let same = e.0 in omega (arith, le, same)))
        (h.first k n r at stands)

    -- that one is in no rule
    pub pass-other : stands-in m ≡ None → (o : Option RuleMention) → IsFirstIfAny names definitions ms o
        → IsFirstIfAny names definitions (m ∷ ms) o
    pass-other is None h = none-more is h
    pass-other is (Some o) h = first-after o h (λ r stands. absurd (let both = sym stands ∙ is in cc both))

    -- it is in a rule after that of the first of the others
    pub pass-later : (own : DefinedAt) (o : RuleMention) → stands-in m ≡ Some own → o.rule.start < own.start
        → IsFirstMention names definitions ms o → IsFirstMention names definitions (m ∷ ms) o
    pass-later own o is lt h = first-after o h (λ r stands.
        let both : Some own ≡ Some r = sym is ∙ stands in
        let one : own ≡ r = cc both in
        let start : own.start ≡ r.start = ap (λ (d : DefinedAt). d.start) one in
        omega (arith, lt, start))

    -- it is in no rule after it
    pub take-this : (own : DefinedAt) (o : Option RuleMention) → stands-in m ≡ Some own
        → MatchOption o (Unit {0}) (λ f. own.start ≤ f.rule.start) → IsFirstIfAny names definitions ms o
        → IsFirstMention names definitions (m ∷ ms) (record { rule = own; mention = m })
    take-this own None is le h = first-here own is (λ k n r at stands. absurd (h k n r at stands))
    take-this own (Some o) is le h = first-here own is (not-before own o le h)

    first-step : (own : Option DefinedAt) → stands-in m ≡ own → (rest : Option RuleMention)
        → IsFirstIfAny names definitions ms rest
        → (first : Option RuleMention) × IsFirstIfAny names definitions (m ∷ ms) first
    first-step None is rest h = (rest, pass-other is rest h)
    first-step (Some own) is None h = (Some (record { rule = own; mention = m }), take-this own None is tt h)
    first-step (Some own) is (Some o) h = ⊎_elim (λ lt. (Some o, pass-later own o is lt h))
        (λ le. (Some (record { rule = own; mention = m }), take-this own (Some o) is le h))
        (cases_lt o.rule.start own.start)

  -- there is one
  pub first-some : (ms : List MentionedAt) → (first : Option RuleMention) × IsFirstIfAny names definitions ms first
  first-some [] = (None, λ k n r at stands. absurd (cc at))
  first-some (m ∷ ms) = let rest = first-some ms in first-step m ms (stands-in m) refl rest.0 rest.1

  -- and no other
  module _ (ms : List MentionedAt) where
    same-position : (a b : RuleMention) (h : IsFirstMention names definitions ms a)
        (g : IsFirstMention names definitions ms b) → h.position ≡ g.position
    same-position a b h g =
        let one = h.first g.position b.mention b.rule g.there g.stands in
        let two = g.first h.position a.mention a.rule h.there h.stands in
        ⊎_elim (λ lt. ⊎_elim (λ gt. absurd (omega (arith, lt, gt)))
        (λ e. absurd (let same = e.0 in omega (arith, lt, same))) two)
        (λ d. ⊎_elim (λ gt. absurd (let same = d.0 in omega (arith, gt, same)))
        (λ e. let le = d.1 in let ge = e.1 in omega (arith, le, ge)) two) one

    both-same : (a b : RuleMention) → a.rule ≡ b.rule → a.mention ≡ b.mention → a ≡ b
    both-same a b e f = ap (λ (r : DefinedAt). record { rule = r; mention = a.mention }) e
        ∙ ap (λ (m : MentionedAt). record { rule = b.rule; mention = m }) f

    mention-one : (a b : RuleMention) → IsFirstMention names definitions ms a
        → IsFirstMention names definitions ms b → a ≡ b
    mention-one a b h g =
        let found : Some a.mention ≡ Some b.mention = sym h.there ∙ ap (slice_get ms) (same-position a b h g)
        ∙ g.there in
        let mention : a.mention ≡ b.mention = cc found in
        let rules : Some a.rule ≡ Some b.rule = sym h.stands ∙ ap stands-in mention ∙ g.stands in
        let rule : a.rule ≡ b.rule = cc rules in
        both-same a b rule mention

    pub first-one : (a b : Option RuleMention) → IsFirstIfAny names definitions ms a
        → IsFirstIfAny names definitions ms b → a ≡ b
    first-one None None h g = refl
    first-one None (Some b) h g = absurd (h g.position b.mention b.rule g.there g.stands)
    first-one (Some a) None h g = absurd (g h.position a.mention a.rule h.there h.stands)
    first-one (Some a) (Some b) h g = ap Some (mention-one a b h g)
