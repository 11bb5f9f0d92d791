-- Rules that derive just what is known of them, and how they settle.
-- Serves: rule_words
use Rattle.std.proofs.Common.{◌≡◌, ◌↔◌, ◌⊎◌, inl, inr, ⊎_elim, ℕ, zero, suc, ◌+◌, ◌<◌, ◌≤◌, Bool, true, false, ◌||◌}
use Rattle.std.proofs.Common.{cond}
use Rattle.std.proofs.Common.{List, [], ◌∷◌, ◌++◌, length, length-append, length-set, map, set, replicate, Option}
use Rattle.std.proofs.Common.{Some, None, Vec}
use Rattle.std.proofs.Common.{Global, refl, sym, ◌∙◌, ap, subst, arith, add-one}
use Rattle.std.specs.Prelude.{slice_get, IsTrue}
use Rattle.std.proofs.lemmas.Bool.{cases_eq, cases_lt}
use Rattle.std.proofs.lemmas.List.{length-replicate}
use Rattle.ruletable.specs.Rules.{same_name}
use Rattle.ruletable.specs.declared.table.NameCase.TheVariants.{Fold}
use Rattle.ruletable.specs.Rules as table
use Rattle.abnfread.specs.AbnfViews.{element_of, rule_of, rules_of}
use Rattle.abnfread.specs.declared.elem.Elem.{Elem}
use Rattle.abnfread.specs.Element as e
use Rattle.abnfread.specs.Element.{Element, Elements, Rule, bodies, body_of, id_of}
use Rattle.abnfcheck.specs.Derivable as der
use Rattle.abnfcheck.specs.Derivable.{AreLetters, Derives, DerivesAll, DerivesSome, DerivesTimes, Spelled}
use Rattle.abnfcheck.proofs.RuleIdLemmas.{body_at_id}
use Rattle.abnfcheck.proofs.YieldsLemmas.{letters_both, letters_parts}
use Rattle.ruletable.specs.Letters.{has}
use Rattle.coverlines.specs.KnownWords.{AreFound, AreKnownOf, ArePassed, AreShortestWords, IsFound, IsSettled, IsStep}
use Rattle.coverlines.specs.KnownWords.{known_cost, fixed_body, fixed_rules, known_at, total}
use Rattle.coverlines.specs.Shortest.{IsShortest, IsShortestOf, may, Spells}
use Rattle.coverlines.specs.declared.bounds.LineBounds.{LineBounds}
use Rattle.coverlines.specs.declared.words.Words.{Words}
use Rattle.coverlines.proofs.ShortestLemmas.{alike_shortest}
use Rattle.coverlines.proofs.WordsLemmas.{known_past}

spelled_self : (t : List ℕ) → Spelled false t t
spelled_self [] = der.end
spelled_self (c ∷ t) = der.next refl (spelled_self t)

spelled_same : {t w : List ℕ} → Spelled false t w → w ≡ t
spelled_same der.end = refl
spelled_same (der.next {t = t} {c = c} {cs = cs} is rest) =
    ap (λ x. x ∷ cs) is ∙ ap (λ v. t ∷ v) (spelled_same rest)

-- the body of a name in the rules by what is known
pub fixed_at : (rules : List Rule) (ks : List (Option (Vec ℕ Global))) (name : List ℕ) (body : Element)
    → length ks ≡ length rules → body_of rules name ≡ Some body
    → body_of (fixed_rules rules ks) name ≡ Some (fixed_body (known_at ks (id_of rules name)))
fixed_at [] ks name body same is = absurd (cc is)
fixed_at (rule ∷ rules) [] name body same is = absurd (omega (arith, same))
fixed_at (rule ∷ rules) (k ∷ ks) name body same is = by (same_name Fold name rule.name) is
    (λ later. fixed_at rules ks name body (omega (arith, same)) later)
  where
    by : (here : Bool) → cond here (Some rule.body) (body_of rules name) ≡ Some body
        → (body_of rules name ≡ Some body
        → body_of (fixed_rules rules ks) name ≡ Some (fixed_body (known_at ks (id_of rules name))))
        → cond here (Some (fixed_body k)) (body_of (fixed_rules rules ks) name)
        ≡ Some (fixed_body (known_at (k ∷ ks) (cond here 0 (id_of rules name + 1))))
    by true is later = refl
    by false is later = later is ∙ ap (λ n. Some (fixed_body (known_at (k ∷ ks) n))) (sym (add-one (id_of rules name)))

-- and the other way round
pub fixed_from : (rules : List Rule) (ks : List (Option (Vec ℕ Global))) (name : List ℕ) (body : Element)
    → body_of (fixed_rules rules ks) name ≡ Some body
    → (own : Element) × (body_of rules name ≡ Some own) × (body ≡ fixed_body (known_at ks (id_of rules name)))
fixed_from [] ks name body is = absurd (cc is)
fixed_from (rule ∷ rules) [] name body is = absurd (cc is)
fixed_from (rule ∷ rules) (k ∷ ks) name body is = by (same_name Fold name rule.name) is
    (λ later. fixed_from rules ks name body later)
  where
    by : (here : Bool) → cond here (Some (fixed_body k)) (body_of (fixed_rules rules ks) name) ≡ Some body
        → (body_of (fixed_rules rules ks) name ≡ Some body
        → (own : Element) × (body_of rules name ≡ Some own) × (body ≡ fixed_body (known_at ks (id_of rules name))))
        → (own : Element) × (cond here (Some rule.body) (body_of rules name) ≡ Some own)
        × (body ≡ fixed_body (known_at (k ∷ ks) (cond here 0 (id_of rules name + 1))))
    by true is later = (rule.body, refl, cc is)
    by false is later = let h = later is in
        (h.0, h.1, h.2 ∙ ap (λ n. fixed_body (known_at (k ∷ ks) n)) (sym (add-one (id_of rules name))))

known_below : (ks : List (Option (Vec ℕ Global))) (id : ℕ) (t : Vec ℕ Global) → known_at ks id ≡ Some t → id < length ks
known_below [] id t is = absurd (cc is)
known_below (k ∷ ks) zero t is = omega arith
known_below (k ∷ ks) (suc id) t is = let lt = known_below ks id t is in omega (arith, lt)

pub body_there : (rules : List Rule) (id : ℕ) → id < length rules
    → (body : Element) × (slice_get (bodies rules) id ≡ Some body)
body_there [] id lt = absurd (omega (arith, lt))
body_there (rule ∷ rules) zero lt = (rule.body, refl)
body_there (rule ∷ rules) (suc id) lt = body_there rules id (omega (arith, lt))

pub body_below : (rules : List Rule) (id : ℕ) (body : Element) → slice_get (bodies rules) id ≡ Some body
    → id < length rules
body_below [] id body is = absurd (cc is)
body_below (rule ∷ rules) zero body is = omega arith
body_below (rule ∷ rules) (suc id) body is = let lt = body_below rules id body is in omega (arith, lt)

no_body : (rules : List Rule) (id : ℕ) → slice_get (bodies rules) id ≡ None → length rules ≤ id
no_body [] id is = omega arith
no_body (rule ∷ rules) zero is = absurd (cc is)
no_body (rule ∷ rules) (suc id) is = let le = no_body rules id is in omega (arith, le)

-- one more that is known
set_total : (limit : ℕ) (ks : List (Option (Vec ℕ Global))) (id : ℕ) (k : Option (Vec ℕ Global)) → id < length ks
    → known_cost limit k < known_cost limit (known_at ks id) → total limit (set ks id k) < total limit ks
set_total limit [] id k lt less = absurd (omega (arith, lt))
set_total limit (j ∷ ks) zero k lt less = omega (arith, less)
set_total limit (j ∷ ks) (suc id) k lt less = let h = set_total limit ks id k (omega (arith, lt)) less in
    omega (arith, h)

known_here : (ks : List (Option (Vec ℕ Global))) (id : ℕ) (k : Option (Vec ℕ Global)) → id < length ks
    → known_at (set ks id k) id ≡ k
known_here [] id k lt = absurd (omega (arith, lt))
known_here (j ∷ ks) zero k lt = refl
known_here (j ∷ ks) (suc id) k lt = known_here ks id k (omega (arith, lt))

known_there : (ks : List (Option (Vec ℕ Global))) (id : ℕ) (k : Option (Vec ℕ Global)) (n : ℕ) → (n ≡ id → ⊥)
    → known_at (set ks id k) n ≡ known_at ks n
known_there [] id k n other = refl
known_there (j ∷ ks) zero k zero other = absurd (other refl)
known_there (j ∷ ks) zero k (suc n) other = refl
known_there (j ∷ ks) (suc id) k zero other = refl
known_there (j ∷ ks) (suc id) k (suc n) other = known_there ks id k n (λ is. other (ap suc is))

-- nothing is known
known_never : (n id : ℕ) → known_at (replicate n None) id ≡ None
known_never zero id = refl
known_never (suc n) zero = refl
known_never (suc n) (suc id) = known_never n id

module _ (b : LineBounds) (rules : List Rule) (ks : List (Option (Vec ℕ Global))) where
  abbrev Fixed : Element → List ℕ → Type 0
  Fixed = Derives (has b.alphabet) (fixed_rules rules ks)

  -- what a name derives there
  only_known : (k : Option (Vec ℕ Global)) (w : List ℕ) → Fixed (fixed_body k) w
      → (t : Vec ℕ Global) × (k ≡ Some t) × (w ≡ t.items)
  only_known None w (der.alt s) = elim s [ ]
  only_known (Some t) w (der.text s) = (t, refl, spelled_same s)

  -- the rules derive what those derive
  module _ (sound : AreFound b rules ks) where
    fixed_named : (n : List ℕ) (el : Element) (w : List ℕ) → body_of (fixed_rules rules ks) n ≡ Some el → Fixed el w
        → Derives (has b.alphabet) rules (e.Name n) w
    fixed_named n el w is d =
        let h = fixed_from rules ks n el is in
        let k = only_known (known_at ks (id_of rules n)) w (subst (λ v. Fixed v w) h.2 d) in
        let f = sound.found (id_of rules n) h.0 (sym (body_at_id rules n) ∙ h.1) in
        let g = subst (IsFound b rules h.0) k.1 f in
        der.name h.1 (subst (Derives (has b.alphabet) rules h.0) (sym k.2) g.0.is)

    mutual
      pub from_fixed : {el : Element} {w : List ℕ} → Fixed el w → Derives (has b.alphabet) rules el w
      from_fixed (der.text s) = der.text s
      from_fixed (der.values s) = der.values s
      from_fixed (der.range from to is) = der.range from to is
      from_fixed (der.concat d) = der.concat (all_from d)
      from_fixed (der.alt d) = der.alt (some_from d)
      from_fixed (der.rep low within d) = der.rep low within (times_from d)
      from_fixed der.opt_empty = der.opt_empty
      from_fixed (der.opt d) = der.opt (from_fixed d)
      from_fixed (der.name {n = n} {e = el} {w = w} is d) = fixed_named n el w is d

      all_from : {es : Elements} {w : List ℕ} → DerivesAll (has b.alphabet) (fixed_rules rules ks) es w
          → DerivesAll (has b.alphabet) rules es w
      all_from der.all_done = der.all_done
      all_from (der.then d ds) = der.then (from_fixed d) (all_from ds)

      some_from : {es : Elements} {w : List ℕ} → DerivesSome (has b.alphabet) (fixed_rules rules ks) es w
          → DerivesSome (has b.alphabet) rules es w
      some_from (der.this d) = der.this (from_fixed d)
      some_from (der.later d) = der.later (some_from d)

      times_from : {el : Element} {k : ℕ} {w : List ℕ} → DerivesTimes (has b.alphabet) (fixed_rules rules ks) el k w
          → DerivesTimes (has b.alphabet) rules el k w
      times_from der.no_more = der.no_more
      times_from (der.one_more d ds) = der.one_more (from_fixed d) (times_from ds)

    -- what is known is all that a name derives there
    pub known_of_fixed : (name : List ℕ) → IsShortest (Spells b (fixed_rules rules ks) (e.Name name)) b.limit
        (known_at ks (id_of rules name))
    known_of_fixed name = by (known_at ks (id_of rules name)) refl
      where
        only : (w : List ℕ) → Fixed (e.Name name) w
            → (t : Vec ℕ Global) × (known_at ks (id_of rules name) ≡ Some t) × (w ≡ t.items)
        only w (der.name {e = el} is d) = let h = fixed_from rules ks name el is in
            only_known (known_at ks (id_of rules name)) w (subst (λ v. Fixed v w) h.2 d)

        below : (t : Vec ℕ Global) → known_at ks (id_of rules name) ≡ Some t → id_of rules name < length rules
        below t is = let lt = known_below ks (id_of rules name) t is in let n = sound.count in omega (arith, lt, n)

        there : (t : Vec ℕ Global) → known_at ks (id_of rules name) ≡ Some t
            → (own : Element) × (body_of rules name ≡ Some own)
        there t is = let h = body_there rules (id_of rules name) (below t is) in (h.0, body_at_id rules name ∙ h.1)

        by : (k : Option (Vec ℕ Global)) → known_at ks (id_of rules name) ≡ k
            → IsShortest (Spells b (fixed_rules rules ks) (e.Name name)) b.limit k
        by None is = λ w s. let h = only w s.is in absurd (cc (is, h.1))
        by (Some t) is =
            let own = there t is in
            let f = subst (IsFound b rules own.0) is (sound.found (id_of rules name) own.0
            (sym (body_at_id rules name) ∙ own.1)) in record {
              is = record {
                symbols = f.0.symbols;
                is = der.name (fixed_at rules ks name own.0 sound.count own.1
                    ∙ ap (λ k. Some (fixed_body k)) is) (der.text (spelled_self t.items));
              };
              within = f.1;
              least = λ w s. let h = only w s.is in
                  let same : t.items ≡ w = (let i = h.1 in let j = h.2 in cc (is, i, j)) in
                  let n = ap length same in omega (arith, n);
            }

    -- settled rules derive no shorter list
    module _ (settled : (id : ℕ) → id < length rules → IsSettled b rules ks id) where
      abbrev Lower : Element → List ℕ → Type 0
      Lower el w = (v : List ℕ) × Spells b (fixed_rules rules ks) el v × length v ≤ length w

      name_lower : (n : List ℕ) (el : Element) (w : List ℕ) → body_of rules n ≡ Some el → length w ≤ b.limit
          → Lower el w → Lower (e.Name n) w
      name_lower n el w is le h = by (known_at ks (id_of rules n)) refl (known_of_fixed n)
        where
          at : slice_get (bodies rules) (id_of rules n) ≡ Some el
          at = sym (body_at_id rules n) ∙ is

          few : known_cost b.limit (known_at ks (id_of rules n)) ≤ length h.0
          few = let k = h.2 in settled (id_of rules n) (body_below rules (id_of rules n) el at) el h.0 at h.1
              (omega (arith, k, le))

          by : (k : Option (Vec ℕ Global)) → known_at ks (id_of rules n) ≡ k
              → IsShortest (Spells b (fixed_rules rules ks) (e.Name n)) b.limit (known_at ks (id_of rules n))
              → Lower (e.Name n) w
          by None same s = let f = subst (λ j. known_cost b.limit j ≤ length h.0) same few in let k = h.2 in
              absurd (omega (arith, f, k, le))
          by (Some t) same s = let f = subst (λ j. known_cost b.limit j ≤ length h.0) same few in let k = h.2 in
              let g = subst (IsShortest (Spells b (fixed_rules rules ks) (e.Name n)) b.limit) same s in
              (t.items, g.is, omega (arith, f, k))

      mutual
        pub lower_derived : {el : Element} {w : List ℕ} → Derives (has b.alphabet) rules el w → AreLetters (may b) w
            → length w ≤ b.limit → Lower el w
        lower_derived {w = w} (der.text s) a le = (w, record { symbols = a; is = der.text s }, omega arith)
        lower_derived {w = w} (der.values s) a le = (w, record { symbols = a; is = der.values s }, omega arith)
        lower_derived (der.range {c = c} from to is) a le =
            (c ∷ [], record { symbols = a; is = der.range from to is }, omega arith)
        lower_derived (der.concat d) a le = let h = all_lower d a le in
            (h.0, record { symbols = h.1; is = der.concat h.2 }, h.3)
        lower_derived (der.alt d) a le = let h = some_lower d a le in
            (h.0, record { symbols = h.1; is = der.alt h.2 }, h.3)
        lower_derived (der.rep low within d) a le = let h = times_lower d a le in
            (h.0, record { symbols = h.1; is = der.rep low within h.2 }, h.3)
        lower_derived der.opt_empty a le = ([], record { symbols = a; is = der.opt_empty }, omega arith)
        lower_derived (der.opt d) a le = let h = lower_derived d a le in
            (h.0, record { symbols = h.1.symbols; is = der.opt h.1.is }, h.2)
        lower_derived (der.name {n = n} {e = el} {w = w} is d) a le = let h = lower_derived d a le in
            name_lower n el w is le h

        all_lower : {es : Elements} {w : List ℕ} → DerivesAll (has b.alphabet) rules es w → AreLetters (may b) w
            → length w ≤ b.limit → (v : List ℕ) × AreLetters (may b) v
            × DerivesAll (has b.alphabet) (fixed_rules rules ks) es v × length v ≤ length w
        all_lower der.all_done a le = ([], tt, der.all_done, omega arith)
        all_lower (der.then {w = w} {v = v} d ds) a le =
            let two = letters_parts (may b) w v a in
            let n = length-append w v in
            let h = lower_derived d two.0 (omega (arith, le, n)) in
            let hs = all_lower ds two.1 (omega (arith, le, n)) in
            let m = length-append h.0 hs.0 in
            let l = h.2 in
            let k = hs.3 in (
              h.0 ++ hs.0,
              letters_both (may b) h.0 hs.0 h.1.symbols hs.1,
              der.then h.1.is hs.2,
              omega (arith, n, m, l, k),
            )

        some_lower : {es : Elements} {w : List ℕ} → DerivesSome (has b.alphabet) rules es w → AreLetters (may b) w
            → length w ≤ b.limit → (v : List ℕ) × AreLetters (may b) v
            × DerivesSome (has b.alphabet) (fixed_rules rules ks) es v × length v ≤ length w
        some_lower (der.this d) a le = let h = lower_derived d a le in (h.0, h.1.symbols, der.this h.1.is, h.2)
        some_lower (der.later d) a le = let h = some_lower d a le in (h.0, h.1, der.later h.2, h.3)

        times_lower : {el : Element} {k : ℕ} {w : List ℕ} → DerivesTimes (has b.alphabet) rules el k w
            → AreLetters (may b) w → length w ≤ b.limit → (v : List ℕ) × AreLetters (may b) v
            × DerivesTimes (has b.alphabet) (fixed_rules rules ks) el k v × length v ≤ length w
        times_lower der.no_more a le = ([], tt, der.no_more, omega arith)
        times_lower (der.one_more {w = w} {v = v} d ds) a le =
            let two = letters_parts (may b) w v a in
            let n = length-append w v in
            let h = lower_derived d two.0 (omega (arith, le, n)) in
            let hs = times_lower ds two.1 (omega (arith, le, n)) in
            let m = length-append h.0 hs.0 in
            let l = h.2 in
            let k = hs.3 in (
              h.0 ++ hs.0,
              letters_both (may b) h.0 hs.0 h.1.symbols hs.1,
              der.one_more h.1.is hs.2,
              omega (arith, n, m, l, k),
            )

      -- what is known of a rule is as short as any list that it derives
      pub cost_least : (id : ℕ) (body : Element) (w : List ℕ) → slice_get (bodies rules) id ≡ Some body
          → Spells b rules body w → length w ≤ b.limit → known_cost b.limit (known_at ks id) ≤ length w
      cost_least id body w at s le =
          let h = lower_derived s.is s.symbols le in
          let n = h.2 in
          let c = settled id (body_below rules id body at) body h.0 at h.1 (omega (arith, n, le)) in
          omega (arith, c, n)

      pub settled_shortest : (id : ℕ) (body : Element) → slice_get (bodies rules) id ≡ Some body
          → IsShortest (Spells b rules body) b.limit (known_at ks id)
      settled_shortest id body at = by (known_at ks id) refl
        where
          least : (k : Option (Vec ℕ Global)) → known_at ks id ≡ k → (w : List ℕ) → Spells b rules body w
              → (b.limit < length w) ⊎ (known_cost b.limit k ≤ length w)
          least k is w s = ⊎_elim (λ lt. inl lt)
              (λ le. inr (subst (λ j. known_cost b.limit j ≤ length w) is (cost_least id body w at s le)))
              (cases_lt b.limit (length w))

          by : (k : Option (Vec ℕ Global)) → known_at ks id ≡ k → IsShortest (Spells b rules body) b.limit k
          by None is = λ w s. ⊎_elim (λ lt. lt) (λ le. omega (arith, le)) (least None is w s)
          by (Some t) is = let f = subst (IsFound b rules body) is (sound.found id body at) in record {
            is = f.0;
            within = f.1;
            least = λ w s. let n = f.1 in ⊎_elim (λ lt. omega (arith, lt, n)) (λ le. le) (least (Some t) is w s);
          }

-- what is known of all names
pub known_of_words : (words : Words) → AreShortestWords words.bounds (rules_of words.rules.now) words.known.now
    → AreKnownOf words (rules_of words.rules.now)
known_of_words words all name = by (body_of (rules_of words.rules.now) name) refl
  where
    named : (w : List ℕ) (body : Element) → body_of (rules_of words.rules.now) name ≡ Some body
        → Spells words.bounds (rules_of words.rules.now) (e.Name name) w
        → Spells words.bounds (rules_of words.rules.now) body w
    named w body is s = record { symbols = s.symbols; is = own s.is }
      where
        own : Derives (has words.bounds.alphabet) (rules_of words.rules.now) (e.Name name) w
            → Derives (has words.bounds.alphabet) (rules_of words.rules.now) body w
        own (der.name {e = el} at d) =
            let same : el ≡ body = cc (at, is) in
            subst (λ v. Derives (has words.bounds.alphabet) (rules_of words.rules.now) v w) same d

    unnamed : (w : List ℕ) → body_of (rules_of words.rules.now) name ≡ None
        → Derives (has words.bounds.alphabet) (rules_of words.rules.now) (e.Name name) w → ⊥
    unnamed w is (der.name at d) = cc (at, is)

    by : (found : Option Element) → body_of (rules_of words.rules.now) name ≡ found
        → IsShortest (Spells words.bounds (rules_of words.rules.now) (e.Name name)) words.bounds.limit
        (known_at words.known.now (id_of (rules_of words.rules.now) name))
    by None is = subst (IsShortest (Spells words.bounds (rules_of words.rules.now) (e.Name name)) words.bounds.limit)
        (sym (known_past words.known.now (id_of (rules_of words.rules.now) name)
        (let le = no_body (rules_of words.rules.now) (id_of (rules_of words.rules.now) name)
        (sym (body_at_id (rules_of words.rules.now) name) ∙ is) in let n = all.count in omega (arith, le, n))))
        (λ w s. absurd (unnamed w is s.is))
    by (Some body) is = alike_shortest words.bounds.limit
        (known_at words.known.now (id_of (rules_of words.rules.now) name))
        (λ w s. record { symbols = s.symbols; is = der.name is s.is }) (λ w s. named w body is s)
        (all.shortest (id_of (rules_of words.rules.now) name) body (sym (body_at_id (rules_of words.rules.now) name)
        ∙ is))

-- steps
pub found_set : (b : LineBounds) (rules : List Rule) (ks : List (Option (Vec ℕ Global))) (id : ℕ) (body : Element)
    (w : Vec ℕ Global) → slice_get (bodies rules) id ≡ Some body → AreFound b rules ks
    → Spells b rules body w.items → length w.items ≤ b.limit → AreFound b rules (set ks id (Some w))
found_set b rules ks id body w at sound s le = record {
  count = let n = length-set ks id (Some w) in let m = sound.count in omega (arith, n, m);
  found = λ n el is. ⊎_elim
      (λ same. let one : body ≡ el = (let j = subst (λ k. slice_get (bodies rules) k ≡ Some el) same is in
      cc (at, j)) in
      subst (IsFound b rules el) (sym (ap (λ k. known_at (set ks id (Some w)) k) same
      ∙ known_here ks id (Some w) inside)) (subst (λ v. Spells b rules v w.items
      × (length w.items ≤ b.limit)) one (s, le)))
      (λ other. subst (IsFound b rules el) (sym (known_there ks id (Some w) n other)) (sound.found n el is))
      (cases_eq n id);
}
  where
    inside : id < length ks
    inside = let lt = body_below rules id body at in let n = sound.count in omega (arith, lt, n)

pub step_set : (b : LineBounds) (rules : List Rule) (ks : List (Option (Vec ℕ Global))) (id : ℕ) (w : Vec ℕ Global)
    → id < length ks → length w.items < known_cost b.limit (known_at ks id)
    → IsStep b rules id ks (set ks id (Some w)) true
step_set b rules ks id w lt less = set_total b.limit ks id (Some w) lt less

-- a rule that has no list at all is settled
pub settled_none : (b : LineBounds) (rules : List Rule) (ks : List (Option (Vec ℕ Global))) (id : ℕ) (body : Element)
    → slice_get (bodies rules) id ≡ Some body
    → IsShortest (Spells b (fixed_rules rules ks) body) b.limit None → IsSettled b rules ks id
settled_none b rules ks id body at never el v is s le =
    let one : el ≡ body = cc (at, is) in
    let lt = never v (subst (λ x. Spells b (fixed_rules rules ks) x v) one s) in absurd (omega (arith, lt, le))

pub settled_some : (b : LineBounds) (rules : List Rule) (ks : List (Option (Vec ℕ Global))) (id : ℕ) (body : Element)
    (w : List ℕ) → slice_get (bodies rules) id ≡ Some body
    → IsShortestOf (Spells b (fixed_rules rules ks) body) b.limit w → known_cost b.limit (known_at ks id) ≤ length w
    → IsSettled b rules ks id
settled_some b rules ks id body w at h few el v is s le =
    let one : el ≡ body = cc (at, is) in
    let least = h.least v (subst (λ x. Spells b (fixed_rules rules ks) x v) one s) in omega (arith, least, few)

pub next_passed : (b : LineBounds) (rules : List Rule) (n : ℕ) (old mid new : List (Option (Vec ℕ Global)))
    (flag step : Bool) → ArePassed b rules n old mid flag → IsStep b rules n mid new step
    → ArePassed b rules (n + 1) old new (flag || step)
next_passed b rules n old mid new true true p s = omega (arith, p, s)
next_passed b rules n old mid new true false p s = subst (λ ks. total b.limit ks < total b.limit old) (sym s.0) p
next_passed b rules n old mid new false true p s = subst (λ ks. total b.limit new < total b.limit ks) p.0 s
next_passed b rules n old mid new false false p s = (
  s.0 ∙ p.0,
  λ id lt. ⊎_elim
      (λ same. subst (λ ks. IsSettled b rules ks id) p.0 (subst (λ k. IsSettled b rules mid k) (sym same) s.1))
      (λ other. p.1 id (omega (arith, lt, other))) (cases_eq id n),
)

pub nothing_found : (b : LineBounds) (rules : List Rule) (ks : List (Option (Vec ℕ Global)))
    → ks ≡ replicate (length rules) None → AreFound b rules ks
nothing_found b rules ks is = rw is (record {
  count = length-replicate {A = Option (Vec ℕ Global)} (length rules) None;
  found = λ id body at. subst (IsFound b rules body) (sym (known_never (length rules) id)) tt;
})

pub not_shorter : (limit n : ℕ) (old : Option (Vec ℕ Global)) (answer : Bool) → answer ≡ false
    → (IsTrue answer ↔ (n < known_cost limit old)) → known_cost limit old ≤ n
not_shorter limit n old answer is h = ⊎_elim (λ lt. absurd (let yes = h.1 lt in cc (is, yes))) (λ le. le)
    (cases_lt n (known_cost limit old))

pub body_shown : (rules : List (table.Rule Elem)) (id : ℕ) (body : Elem)
    → slice_get (map (λ rule. rule.body) rules) id ≡ Some body
    → slice_get (bodies (map rule_of rules)) id ≡ Some (element_of body)
body_shown [] id body is = absurd (cc is)
body_shown (rule ∷ rules) zero body is = let same : rule.body ≡ body = cc is in ap (λ x. Some (element_of x)) same
body_shown (rule ∷ rules) (suc id) body is = body_shown rules id body is
