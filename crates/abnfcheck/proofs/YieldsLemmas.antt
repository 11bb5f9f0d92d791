-- A number is in the least set exactly if its element derives a list that is asked for.
-- Serves: nullable_rules, productive, lower_viable
use Rattle.std.proofs.Common.{◌≡◌, ◌↔◌, ℕ, zero, suc, ◌<◌, ◌≤◌, ◌⊎◌, inl, inr, ⊎_elim, Bool, true, false, cond, leb}
use Rattle.std.proofs.Common.{ltb, List, [], ◌∷◌, ◌++◌, length, Option, Some, None, refl, sym, ◌∙◌, subst, arith}
use Rattle.std.proofs.Common.{leb-true, le-leb, ltb-true, lt-ltb, take}
use Rattle.std.specs.Prelude.{slice_get, Contains, IsTrue}
use Rattle.fixpoint.specs.Demands.{Demand, All, One}
use Rattle.fixpoint.specs.Least.{Comes, by_all, by_one, AreMarksOfThose}
use Rattle.std.proofs.lemmas.Bool.{both_ways, cases_lt}
use Rattle.std.proofs.lemmas.List.{get_or-take, length-take-le}
use Rattle.fixpoint.specs.NumberMarks.{IsMarked}
use Rattle.fixpoint.proofs.ContainsLemmas.{none_of, only_one, in_first, in_later, cons_cases}
use Rattle.ruletable.specs.Letters.{has as in_alphabet}
use Rattle.ruletable.specs.declared.alphabet.Alphabet.{Alphabet}
use Rattle.abnfread.specs.Element as e
use Rattle.abnfread.specs.Element.{Element, Elements, Rule, bodies, id_of}
use Rattle.abnfcheck.specs.Derivable as der
use Rattle.abnfcheck.specs.Derivable.{AreLetters, Derives, DerivesAll, DerivesSome, DerivesTimes, all_done, then, this}
use Rattle.abnfcheck.specs.Derivable.{later, no_more, one_more, RuleDerives}
use Rattle.abnfcheck.specs.declared.aim.Aim.{Aim}
use Rattle.abnfcheck.specs.declared.aim.Aim.TheVariants.{Empty, Letters}
use Rattle.abnfcheck.specs.RuleMarks.{AreMarksFor, AreNullMarks, AreProductive, IsAim, IsTestOf, Yields, need_if}
use Rattle.abnfcheck.specs.RuleMarks.{need_of_iterations, need_of_repeat, need_of_id, Asks, asks, IsNeedOf, of_met}
use Rattle.abnfcheck.specs.RuleMarks.{of_unmet}
use Rattle.abnfcheck.specs.RuleMarks.{of_concat, of_alt, of_rep, of_name, AskAll, ask_none, ask_more, HaveBodyNeeds}
use Rattle.abnfcheck.proofs.GraphLemmas.{body_below, body_there}
use Rattle.abnfcheck.proofs.RuleIdLemmas.{body_at_id}

nil_both : (w v : List ℕ) → w ++ v ≡ [] → (w ≡ []) × (v ≡ [])
nil_both [] v is = (refl, is)
nil_both (c ∷ w) v is = absurd (cc is)

pub letters_both : (has : ℕ → Bool) (w v : List ℕ) → AreLetters has w → AreLetters has v → AreLetters has (w ++ v)
letters_both has [] v a b = b
letters_both has (c ∷ w) v a b = (a.0, letters_both has w v a.1 b)

pub letters_parts : (has : ℕ → Bool) (w v : List ℕ) → AreLetters has (w ++ v) → AreLetters has w × AreLetters has v
letters_parts has [] v a = (tt, a)
letters_parts has (c ∷ w) v a = let rest = letters_parts has w v a.1 in ((a.0, rest.0), rest.1)

-- the lists that are asked for hold the empty one, and with two lists the one that they make up, and the other way
-- round
aim_nil : (aim : Aim) → IsAim aim []
aim_nil Empty = refl
aim_nil (Letters alphabet) = tt

aim_both : (aim : Aim) (w v : List ℕ) → IsAim aim w → IsAim aim v → IsAim aim (w ++ v)
aim_both Empty w v a b = rw (a, b) refl
aim_both (Letters alphabet) w v a b = letters_both (in_alphabet alphabet) w v a b

aim_parts : (aim : Aim) (w v : List ℕ) → IsAim aim (w ++ v) → IsAim aim w × IsAim aim v
aim_parts Empty w v is = nil_both w v is
aim_parts (Letters alphabet) w v is = letters_parts (in_alphabet alphabet) w v is

module _ (has : ℕ → Bool) (rules : List Rule) (aim : Aim) where
  -- the needs of elements by themselves
  module _ (needs : List Demand) where
    met_need : (met : Bool) (el : Element) → (IsTrue met ↔ Yields has rules aim el)
        → IsNeedOf has rules aim needs (need_if met) el
    met_need true el reports = of_met (reports.0 refl)
    met_need false el reports = of_unmet (λ y. both_ways false refl (reports.1 y))

    pub text_need : (met folds : Bool) (t u : List ℕ) → u ≡ t →
        ((has : ℕ → Bool) (rules : List Rule) (folds : Bool) → IsTestOf aim has → IsTrue met
        ↔ Yields has rules aim (e.Text folds u)) → IsTestOf aim has →
        IsNeedOf has rules aim needs (need_if met) (e.Text folds t)
    text_need met folds t u same reports test = met_need met (e.Text folds t)
        (subst (λ v. IsTrue met ↔ Yields has rules aim (e.Text folds v)) same (reports has rules folds test))

    pub values_need : (met : Bool) (vs us : List ℕ) → us ≡ vs →
        ((has : ℕ → Bool) (rules : List Rule) → IsTestOf aim has → IsTrue met ↔ Yields has rules aim (e.Values us))
        → IsTestOf aim has →
        IsNeedOf has rules aim needs (need_if met) (e.Values vs)
    values_need met vs us same reports test = met_need met (e.Values vs)
        (subst (λ v. IsTrue met ↔ Yields has rules aim (e.Values v)) same (reports has rules test))

    pub range_need : (met : Bool) (low high : ℕ) →
        ((has : ℕ → Bool) (rules : List Rule) → IsTestOf aim has → IsTrue met ↔ Yields has rules aim (e.Range low high))
        → IsTestOf aim has →
        IsNeedOf has rules aim needs (need_if met) (e.Range low high)
    range_need met low high reports test = met_need met (e.Range low high) (reports has rules test)

    pub option_need : (el : Element) → IsNeedOf has rules aim needs (All []) (e.Opt el)
    option_need el = of_met (record { word = []; asked = aim_nil aim; derives = der.opt_empty })

    no_prose : {t w : List ℕ} → Derives has rules (e.Prose t) w → ⊥
    no_prose d = elim d [ ]

    pub prose_need : (t : List ℕ) → IsNeedOf has rules aim needs (One []) (e.Prose t)
    prose_need t = of_unmet (λ y. no_prose y.derives)

    not_reversed : {a most : ℕ} {el : Element} {w : List ℕ} → Derives has rules (e.Rep a (Some most) el) w → a ≤ most
    not_reversed (der.rep low within ds) = omega (arith, low, within)

    pub repeat_need : (a : ℕ) (b : Option ℕ) (m : ℕ) (el : Element) → Asks has rules aim needs m el
        → IsNeedOf has rules aim needs (need_of_repeat a b m) (e.Rep a b el)
    repeat_need a b m el asked = by (leb a 0) refl
      where
        no_iteration : (b : Option ℕ) → a ≤ 0 → Yields has rules aim (e.Rep a b el)
        no_iteration None le = record { word = []; asked = aim_nil aim; derives = der.rep {k = 0} le tt no_more }
        no_iteration (Some most) le = record {
          word = [];
          asked = aim_nil aim;
          derives = der.rep {k = 0} le (omega arith) no_more;
        }

        test : (most : ℕ) (c : Bool) → leb a most ≡ c → 0 < a
            → IsNeedOf has rules aim needs (cond c (All (m ∷ [])) (One [])) (e.Rep a (Some most) el)
        test most true le some = of_rep some (leb-true a most le) asked
        test most false le some = of_unmet (λ y. both_ways false refl (sym le ∙ le-leb a most (not_reversed y.derives)))

        iterations : (b : Option ℕ) → 0 < a → IsNeedOf has rules aim needs (need_of_iterations a b m) (e.Rep a b el)
        iterations None some = of_rep some tt asked
        iterations (Some most) some = test most (leb a most) refl some

        more_than : leb a 0 ≡ false → 0 < a
        more_than few = ⊎_elim (λ lt. lt) (λ le. absurd (let yes = le-leb a 0 le in cc (yes, few))) (cases_lt 0 a)

        by : (c : Bool) → leb a 0 ≡ c → IsNeedOf has rules aim needs (cond c (All []) (need_of_iterations a b m))
            (e.Rep a b el)
        by true le = of_met (no_iteration b (leb-true a 0 le))
        by false few = iterations b (more_than few)

    name_is_rule : {n w : List ℕ} → Derives has rules (e.Name n) w → id_of rules n < length rules
    name_is_rule (der.name {n = n} {e = body} found d) = body_below rules (id_of rules n) body
        (sym (body_at_id rules n) ∙ found)

    pub named_need : (name : List ℕ) → IsNeedOf has rules aim needs (need_of_id (length rules) (id_of rules name))
        (e.Name name)
    named_need name = by (ltb (id_of rules name) (length rules)) refl
      where
        by : (c : Bool) → ltb (id_of rules name) (length rules) ≡ c
            → IsNeedOf has rules aim needs (cond c (All (id_of rules name ∷ [])) (One [])) (e.Name name)
        by true lt = of_name (ltb-true (id_of rules name) (length rules) lt)
        by false ge = of_unmet (λ y. both_ways false refl
            (sym ge ∙ lt-ltb (id_of rules name) (length rules) (name_is_rule y.derives)))

  module _ (needs : List Demand) (have : HaveBodyNeeds has rules aim needs (length rules)) where
    -- a number is that of an element, or of a rule's body
    abbrev Means : ℕ → Element → Type 0
    Means n el = Asks has rules aim needs n el ⊎ (slice_get (bodies rules) n ≡ Some el)

    abbrev Gives : ℕ → Type 0
    Gives n = (el : Element) → Means n el → Yields has rules aim el

    -- by the needs of a number, all or one of which derive what is asked for
    abbrev Reports : Demand → Type 0
    Reports (All row) = (m : ℕ) → Contains row m → Gives m
    Reports (One row) = (m : ℕ) × Contains row m × Gives m

    all_give : {ms : List ℕ} {es : Elements} → ((m : ℕ) → Contains ms m → Gives m) → AskAll has rules aim needs ms es
        → (w : List ℕ) × IsAim aim w × DerivesAll has rules es w
    all_give old ask_none = ([], aim_nil aim, all_done)
    all_give old (ask_more {m = m} {ms = ms} {e = el} a all) =
        let d = old m (in_first m ms) el (inl a) in
        let ds = all_give (λ k h. old k (in_later m k ms h)) all in
        (d.word ++ ds.0, aim_both aim d.word ds.0 d.asked ds.1, then d.derives ds.2)

    some_gives : {ms : List ℕ} {es : Elements} (m : ℕ) → Contains ms m → Gives m → AskAll has rules aim needs ms es
        → (w : List ℕ) × IsAim aim w × DerivesSome has rules es w
    some_gives m h old ask_none = absurd (none_of m h)
    some_gives m h old (ask_more {m = first} {ms = ms} {e = el} a all) = ⊎_elim
        (λ is. let d = old el (inl (subst (λ v. Asks has rules aim needs v el) is a)) in
        (d.word, d.asked, this d.derives))
        (λ rest. let s = some_gives m rest old all in (s.0, s.1, later s.2))
        (cons_cases first m ms h)

    times_give : {el : Element} (k : ℕ) → Yields has rules aim el → (w : List ℕ) × IsAim aim w
        × DerivesTimes has rules el k w
    times_give zero d = ([], aim_nil aim, no_more)
    times_give (suc k) d = let ds = times_give k d in
        (d.word ++ ds.0, aim_both aim d.word ds.0 d.asked ds.1, one_more d.derives ds.2)

    reported_of_need : {need : Demand} {el : Element} → IsNeedOf has rules aim needs need el → Reports need
        → Yields has rules aim el
    reported_of_need (of_met y) h = y
    reported_of_need (of_unmet bad) h = absurd (none_of h.0 h.1)
    reported_of_need (of_concat all) h =
        let s = all_give h all in record { word = s.0; asked = s.1; derives = der.concat s.2 }
    reported_of_need (of_alt all) h = let s = some_gives h.0 h.1 h.2 all in
        record { word = s.0; asked = s.1; derives = der.alt s.2 }
    reported_of_need (of_rep {a = a} {m = m} {e = el} some within asked) h =
        let s = times_give a (h m (in_first m []) el (inl asked)) in
        record { word = s.0; asked = s.1; derives = der.rep {k = a} (omega arith) within s.2 }
    reported_of_need (of_name {name = name} lt) h =
        let b = body_there rules (id_of rules name) lt in
        let d = h (id_of rules name) (in_first (id_of rules name) []) b.0 (inr b.1) in
        record { word = d.word; asked = d.asked; derives = der.name (body_at_id rules name ∙ b.1) d.derives }

    -- what a number of the least set means derives a list that is asked for
    by_need : (n : ℕ) (need : Demand) → slice_get needs n ≡ Some need → Reports need → Gives n
    by_need n need at h el (inl (asks le is of)) =
        reported_of_need of (let same : need ≡ _ = cc (at, is) in subst Reports same h)
    by_need n need at h el (inr body) =
        let b = have n el (body_below rules n el body) body in
        let same : need ≡ All (b.number ∷ []) = (let is = b.need_is in cc (at, is)) in
        (subst Reports same h) b.number (in_first b.number []) el (inl b.asked)

    comes_yields : {n : ℕ} → Comes needs n → Gives n
    comes_yields (by_all {n = n} {row = row} at each) = by_need n (All row) at (λ m h. comes_yields (each m h))
    comes_yields (by_one {n = n} {m = m} {row = row} at h c) = by_need n (One row) at (m, h, comes_yields c)

    -- and what derives one is in the least set
    free_comes : (n : ℕ) → slice_get needs n ≡ Some (All []) → Comes needs n
    free_comes n at = by_all at (λ m h. absurd (none_of m h))

    single_comes : (n m : ℕ) → slice_get needs n ≡ Some (All (m ∷ [])) → Comes needs m → Comes needs n
    single_comes n m at c = by_all at (λ k h. subst (λ v. Comes needs v) (only_one m k h) c)

    mutual
      yields_comes : {n : ℕ} {el : Element} {w : List ℕ} → Asks has rules aim needs n el → Derives has rules el w
          → IsAim aim w → Comes needs n
      yields_comes (asks {n = n} le at (of_met y)) d good = free_comes n at
      yields_comes {w = w} (asks le at (of_unmet bad)) d good =
          absurd (bad (record { word = w; asked = good; derives = d }))
      yields_comes (asks le at (of_concat all)) (der.concat ds) good = by_all at (all_come all ds good)
      yields_comes (asks le at (of_alt all)) (der.alt ds) good = let s = some_comes all ds good in by_one at s.1 s.2
      yields_comes (asks {n = n} le at (of_rep {m = m} some within asked)) (der.rep low most ds) good =
          single_comes n m at (times_come asked ds good (omega (arith, some, low)))
      yields_comes (asks {n = n} le at (of_name lt)) (der.name {n = name} {e = body} found d) good =
          let b = have (id_of rules name) body lt (sym (body_at_id rules name) ∙ found) in
          single_comes n (id_of rules name) at (single_comes (id_of rules name) b.number b.need_is
          (yields_comes b.asked d good))

      all_come : {es : Elements} {w : List ℕ} {ms : List ℕ} → AskAll has rules aim needs ms es
          → DerivesAll has rules es w → IsAim aim w → (m : ℕ) → Contains ms m → Comes needs m
      all_come ask_none all_done good m h = absurd (none_of m h)
      all_come (ask_more {m = first} {ms = ms} a all) (then {w = w} {v = v} d ds) good m h =
          let two = aim_parts aim w v good in
          ⊎_elim (λ is. subst (λ k. Comes needs k) is (yields_comes a d two.0)) (λ rest. all_come all ds two.1 m rest)
          (cons_cases first m ms h)

      some_comes : {es : Elements} {w : List ℕ} {ms : List ℕ} → AskAll has rules aim needs ms es
          → DerivesSome has rules es w → IsAim aim w → (m : ℕ) × Contains ms m × Comes needs m
      some_comes ask_none d good = elim d [ ]
      some_comes (ask_more {m = first} {ms = ms} a all) (this d) good =
          (first, in_first first ms, yields_comes a d good)
      some_comes (ask_more {m = first} {ms = ms} a all) (later ds) good = let s = some_comes all ds good in
          (s.0, in_later first s.0 ms s.1, s.2)

      times_come : {el : Element} {k n : ℕ} {w : List ℕ} → Asks has rules aim needs n el → DerivesTimes has rules el k w
          → IsAim aim w → 0 < k → Comes needs n
      times_come a no_more good lt = absurd (omega (arith, lt))
      times_come a (one_more {w = w} {v = v} d ds) good lt = yields_comes a d (aim_parts aim w v good).0

    pub mark_reports : (marks : List Bool) → AreMarksOfThose needs marks → (id : ℕ) → id < length rules
        → (IsMarked marks id ↔ ((w : List ℕ) × IsAim aim w × RuleDerives has rules id w))
    mark_reports marks are id lt = (
      (λ on.
          let b = body_there rules id lt in
          let y = comes_yields ((are id).0 on) b.0 (inr b.1) in
          (y.word, y.asked, record { body = b.0; is = b.1; derives = y.derives })),
      (λ r. let b = have id r.2.body lt r.2.is in (are id).1
          (single_comes id b.number b.need_is (yields_comes b.asked r.2.derives r.1))),
    )

pub marks_for : (aim : Aim) (rules : List Rule) (needs : List Demand) (marks : List Bool) →
    ((has : ℕ → Bool) → IsTestOf aim has → HaveBodyNeeds has rules aim needs (length rules))
    → AreMarksOfThose needs marks → AreMarksFor aim rules marks
marks_for aim rules needs marks have are has test id lt = mark_reports has rules aim needs
    (have has test) marks are id lt

pub null_marks : (rules : List Rule) (marks : List Bool) (n : ℕ) → n ≡ length rules → AreMarksFor Empty rules marks
    → AreNullMarks rules (take n marks)
null_marks rules marks n same are has id lt =
    let m = are has tt id lt in
    subst (λ (b : Bool). (b ≡ true) ↔ RuleDerives has rules id [])
    (sym (get_or-take n marks id false (omega (arith, lt, same))))
    ((λ on. let r = m.0 on in subst (λ v. RuleDerives has rules id v) r.1 r.2), (λ r. m.1 ([], refl, r)))

pub productive_marks : (alphabet : Alphabet) (rules : List Rule) (marks : List Bool) (n : ℕ) → n ≡ length rules
    → length rules ≤ length marks →
    AreMarksFor (Letters alphabet) rules marks → AreProductive alphabet rules (take n marks)
productive_marks alphabet rules marks n same fits are = record {
  count = length-take-le n marks (omega (arith, same, fits)) ∙ same;
  exact = λ id lt.
      subst (λ (b : Bool). (b ≡ true) ↔ ((w : List ℕ) × AreLetters (in_alphabet alphabet) w
      × RuleDerives (in_alphabet alphabet) rules id w))
      (sym (get_or-take n marks id false (omega (arith, lt, same)))) (are (in_alphabet alphabet) refl id lt);
}
