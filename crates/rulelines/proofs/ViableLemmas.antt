-- What a state says of the rule.
-- Serves: next_prefix
use Rattle.std.proofs.Common.{◌≡◌, ◌⊎◌, inl, inr, ℕ, ◌+◌, ◌<◌, ◌≤◌, List, [], ◌∷◌, ◌++◌, length, refl}
use Rattle.std.proofs.Common.{sym, ◌∙◌, ap, subst, arith, append_assoc, append-nil, take, length-append}
use Rattle.std.specs.Prelude.{Bool, true}
use Rattle.abnfread.specs.Element.{Rule}
use Rattle.abnfcheck.specs.Derivable.{AreLetters, RuleDerives}
use Rattle.abnfcheck.specs.Prefixes.{BeginsMember}
use Rattle.flatgrammar.specs.Flat.{Flat, Dot}
use Rattle.ruletable.specs.Letters.{has as has_letter}
use Rattle.ruletable.specs.declared.alphabet.Alphabet.{Alphabet}
use Rattle.flatgrammar.specs.Stacks.{AreUncounted, MarksLast, Reach}
use Rattle.flatgrammar.proofs.StacksLemmas.{item_reached, reached_item}
use Rattle.lazydfa.specs.RunVerdicts.{IsOne}
use Rattle.lazydfa.specs.StateSets.{StateSet}
use Rattle.rulelines.specs.LineSets.{is_line_symbol}
use Rattle.rulelines.specs.Misses.{CanFollow, CannotFollow, HaveSameRests}
use Rattle.rulelines.specs.MissSearch.{GivesPrefixesTo, IsLive, LeadsAstray, LeadsOn}
use Rattle.rulelines.specs.StatePairs.{AcceptsRule}
use Rattle.rulelines.proofs.LineOrderLemmas.{inner_letters}
use Rattle.rulelines.proofs.StateClosuresLemmas.{accepts_ended, accepts_takes, ended_accepts, lead_next, LeadTo}
use Rattle.rulelines.proofs.StateClosuresLemmas.{live_reached, Next, none_there, self_alike, takes_accepts}
use Rattle.rulelines.proofs.StatePairsLemmas.{accepted_derived, derived_accepted}

pub letters_join : (has : ℕ → Bool) (u v : List ℕ) → AreLetters has u → AreLetters has v → AreLetters has (u ++ v)
letters_join has [] v all more = more
letters_join has (b ∷ u) v all more = (all.0, letters_join has u v all.1 more)

pub letters_left : (has : ℕ → Bool) (u v : List ℕ) → AreLetters has (u ++ v) → AreLetters has u
letters_left has [] v all = tt
letters_left has (b ∷ u) v all = (all.0, letters_left has u v all.1)

pub letters_right : (has : ℕ → Bool) (u v : List ℕ) → AreLetters has (u ++ v) → AreLetters has v
letters_right has [] v all = all
letters_right has (b ∷ u) v all = letters_right has u v all.1

pub take_prefix : (u v : List ℕ) → take (length u) (u ++ v) ≡ u
take_prefix [] v = refl
take_prefix (b ∷ u) v = ap (λ x. b ∷ x) (take_prefix u v)

pub take_whole : (u : List ℕ) → take (length u) u ≡ u
take_whole u = ap (λ v. take (length u) v) (sym (append-nil u)) ∙ take_prefix u []

module _ (alphabet : Alphabet) (rules : List Rule) (id : ℕ) where
  abbrev pub Viable : List ℕ → Type 0
  Viable u = BeginsMember (has_letter alphabet) rules id u (length u)

  -- a prefix of a viable prefix
  pub viable_prefix : (u v : List ℕ) → AreLetters (has_letter alphabet) v → Viable (u ++ v) → Viable u
  viable_prefix u v letters b = record {
    rest = v ++ b.rest;
    letters = letters_join (has_letter alphabet) v b.rest letters b.letters;
    derives = subst (λ x. RuleDerives (has_letter alphabet) rules id x)
        (ap (λ x. x ++ b.rest) (take_whole (u ++ v)) ∙ (append_assoc u v b.rest
        ∙ ap (λ x. x ++ (v ++ b.rest)) (sym (take_whole u)))) b.derives;
  }

  pub derived_viable : (u : List ℕ) → RuleDerives (has_letter alphabet) rules id u → Viable u
  derived_viable u d = record {
    rest = [];
    letters = tt;
    derives = subst (λ x. RuleDerives (has_letter alphabet) rules id x)
        (sym (append-nil (take (length u) u) ∙ take_whole u)) d;
  }

  -- it is a line, or a symbol follows
  pub viable_cases : (u : List ℕ) → Viable u → RuleDerives (has_letter alphabet) rules id u
      ⊎ ((c : ℕ) × (has_letter alphabet c ≡ true) × Viable (u ++ c ∷ []))
  viable_cases u b = by b.rest b.letters
      (subst (λ x. RuleDerives (has_letter alphabet) rules id (x ++ b.rest)) (take_whole u) b.derives)
    where
      by : (rest : List ℕ) → AreLetters (has_letter alphabet) rest
          → RuleDerives (has_letter alphabet) rules id (u ++ rest)
          → RuleDerives (has_letter alphabet) rules id u
          ⊎ ((c : ℕ) × (has_letter alphabet c ≡ true) × Viable (u ++ c ∷ []))
      by [] letters d = inl (subst (λ x. RuleDerives (has_letter alphabet) rules id x) (append-nil u) d)
      by (c ∷ rest) letters d = inr (
        c,
        letters.0,
        record {
          rest = rest;
          letters = letters.1;
          derives = subst (λ x. RuleDerives (has_letter alphabet) rules id x)
              (sym (ap (λ x. x ++ rest) (take_whole (u ++ c ∷ [])) ∙ append_assoc u (c ∷ []) rest)) d;
        },
      )

module _ (alphabet : Alphabet) (terminator limit : ℕ) (rules : List Rule) (id : ℕ) (flat : Flat) (last : Dot → Bool)
    (gives : GivesPrefixesTo alphabet limit rules id flat) (one : IsOne flat) (uncounted : AreUncounted flat)
    (tails : MarksLast flat last) where
  abbrev Has : ℕ → Bool
  Has = has_letter alphabet

  accepts_rule : AcceptsRule Has rules id flat last flat.limit
  accepts_rule = record {
    body = one.0;
    whole = one.1;
    tail_positions = tails;
    uncounted = uncounted;
    derives = gives.prefixes.lines;
  }

  within_flat : (n : ℕ) → n ≤ limit + 1 → n ≤ flat.limit
  within_flat n le = let e = gives.most in omega (arith, e, le)

  -- a viable prefix is one that leads to some stack
  pub viable_reached : (u : List ℕ) → AreLetters Has u → length u ≤ limit + 1 → 0 < length u
      → Viable alphabet rules id u → (a : List Dot) × Reach flat last u (length u) a
  viable_reached u letters le some viable =
      item_reached flat uncounted u last tails
      ((gives.prefixes.viable u (length u) (within_flat (length u) le) letters some (omega arith)).1 viable)

  pub reached_viable : (u : List ℕ) → AreLetters Has u → length u ≤ limit + 1 → 0 < length u
      → (a : List Dot) × Reach flat last u (length u) a → Viable alphabet rules id u
  reached_viable u letters le some h =
      (gives.prefixes.viable u (length u) (within_flat (length u) le) letters some (omega arith)).0
      (reached_item flat uncounted u last tails h.0 h.1)

  length_pushed : (u : List ℕ) (c : ℕ) → length (u ++ c ∷ []) ≡ length u + 1
  length_pushed u c = length-append u (c ∷ [])

  module _ (u : List ℕ) (s : StateSet) (leads : LeadTo flat last u s) (letters : AreLetters Has u)
      (within : length u ≤ limit) where
    pub ended_derives : s.ended ≡ true → RuleDerives Has rules id u
    ended_derives ended =
        accepted_derived Has rules id flat last flat.limit accepts_rule u
        (within_flat (length u) (omega (arith, within)))
        letters (ended_accepts flat last u s leads ended)

    pub derives_ended : RuleDerives Has rules id u → s.ended ≡ true
    derives_ended d = accepts_ended flat last u s leads
        (derived_accepted Has rules id flat last flat.limit accepts_rule u
        (within_flat (length u) (omega (arith, within)))
        letters d)

    -- a symbol follows, so there is a stack
    pub follows_some : (c : ℕ) → Has c ≡ true → Viable alphabet rules id (u ++ c ∷ []) → s.stacks ≡ [] → ⊥
    follows_some c symbol viable none =
        none_there flat last u s leads c [] none
        (subst (λ v. (a : List Dot) × Reach flat last (u ++ c ∷ []) v a) (length_pushed u c)
        (viable_reached (u ++ c ∷ []) (letters_join Has u (c ∷ []) letters (symbol, tt))
        (let e = length_pushed u c in omega (arith, e, within)) (let e = length_pushed u c in omega (arith, e)) viable))

    pub viable_live : Viable alphabet rules id u → IsLive s
    viable_live viable = by (viable_cases alphabet rules id u viable)
      where
        by : RuleDerives Has rules id u ⊎ ((c : ℕ) × (Has c ≡ true) × Viable alphabet rules id (u ++ c ∷ []))
            → IsLive s
        by (inl d) = inr (derives_ended d)
        by (inr g) = inl (λ none. follows_some g.0 g.1 g.2 none)

    pub live_viable : (c : ℕ) → Has c ≡ true → (t : StateSet) → Next flat last s c t → IsLive t
        → Viable alphabet rules id (u ++ c ∷ [])
    live_viable c symbol t next live =
        reached_viable (u ++ c ∷ []) (letters_join Has u (c ∷ []) letters (symbol, tt))
        (let e = length_pushed u c in omega (arith, e, within)) (let e = length_pushed u c in omega (arith, e))
        (subst (λ v. (a : List Dot) × Reach flat last (u ++ c ∷ []) v a) (sym (length_pushed u c))
        (live_reached flat last u s leads c [] t next live))

  module _ (u : List ℕ) (s : StateSet) (leads : LeadTo flat last u s)
      (letters : AreLetters (is_line_symbol alphabet terminator) u) (within : length u ≤ limit) where
    inner_symbol : (c : ℕ) → is_line_symbol alphabet terminator c ≡ true → Has c ≡ true
    inner_symbol c symbol = (inner_letters alphabet terminator (c ∷ []) (symbol, tt)).0

    letters_are : AreLetters Has u
    letters_are = inner_letters alphabet terminator u letters

    abbrev Wrong : ℕ → Type 0
    Wrong c = CannotFollow alphabet terminator limit rules id u c

    pub on_can : (c : ℕ) → is_line_symbol alphabet terminator c ≡ true → LeadsOn flat last s c
        → CanFollow alphabet terminator limit rules id u c
    on_can c symbol l = record {
      symbol = symbol;
      viable = live_viable u s leads letters_are within c (inner_symbol c symbol) l.to l.next l.live;
    }

    pub astray_wrong : (c : ℕ) → is_line_symbol alphabet terminator c ≡ true → length u < limit
        → LeadsAstray flat last s c → Wrong c
    astray_wrong c symbol room a = record {
      symbol = symbol;
      room = room;
      not_viable = λ viable. a.dead (viable_live (u ++ c ∷ []) a.to
          (lead_next flat last u s leads c c (self_alike flat c) a.to a.next)
          (letters_join Has u (c ∷ []) letters_are (inner_symbol c symbol, tt))
          (let e = length_pushed u c in omega (arith, e, room)) viable);
    }

  -- two prefixes that lead to one state
  pub same_rests : (u v : List ℕ) (s : StateSet) → LeadTo flat last u s → LeadTo flat last v s → AreLetters Has u
      → AreLetters Has v → HaveSameRests alphabet terminator limit rules id u v
  same_rests u v s first second first_letters second_letters r letters first_within second_within = (
    λ d. accepted_derived Has rules id flat last flat.limit accepts_rule (v ++ r) (fits v second_within)
        (letters_join Has v r second_letters letters)
        (takes_accepts flat last v s second r (accepts_takes flat last u s first r
        (derived_accepted Has rules id flat last flat.limit accepts_rule (u ++ r) (fits u first_within)
        (letters_join Has u r first_letters letters) d))),
    λ d. accepted_derived Has rules id flat last flat.limit accepts_rule (u ++ r) (fits u first_within)
        (letters_join Has u r first_letters letters)
        (takes_accepts flat last u s first r (accepts_takes flat last v s second r
        (derived_accepted Has rules id flat last flat.limit accepts_rule (v ++ r) (fits v second_within)
        (letters_join Has v r second_letters letters) d))),
  )
    where
      fits : (x : List ℕ) → length x + length r ≤ limit → length (x ++ r) ≤ flat.limit
      fits x le = let e = gives.most in let l = length-append x r in omega (arith, e, l, le)
