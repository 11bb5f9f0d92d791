-- What is left of elements without a letter derives those lists in which it does not stand.
-- Serves: abnf_hints
use Rattle.std.proofs.Common.{◌≡◌, ◌↔◌, ℕ, zero, suc, ◌+◌, ◌-◌, ◌<◌, ◌≤◌, ⊎_elim, Bool, true, false, List, []}
use Rattle.std.proofs.Common.{◌∷◌, ◌++◌, length, map, take, get_or, Option, Some, refl, sym, ◌∙◌, ap, subst, arith}
use Rattle.std.proofs.Common.{add-one, ◌==◌, eq-eqb, cond}
use Rattle.std.specs.Prelude.{Contains, slice_get}
use Rattle.std.proofs.lemmas.Bool.{eqb-true, cases_eq, cases_lt}
use Rattle.std.proofs.lemmas.Bool.Decides.{nat_tests}
use Rattle.std.proofs.lemmas.List.{map-append}
use Rattle.std.proofs.lemmas.List.Elements.{Contains-append_left, Contains-append_right, Contains-append_cases}
use Rattle.std.proofs.Math.Seq.{take-suc}
use Rattle.fixpoint.proofs.ContainsLemmas.{none_of, only_one, in_first, in_later, cons_cases}
use Rattle.fixpoint.specs.NumberMarks.{IsMarked}
use Rattle.ruletable.specs.Letters.{has as in_alphabet}
use Rattle.ruletable.specs.declared.alphabet.Alphabet.{Alphabet}
use Rattle.ruletable.specs.Rules.{same_name}
use Rattle.ruletable.specs.declared.table.NameCase.TheVariants.{Fold}
use Rattle.abnfread.specs.Element as e
use Rattle.abnfread.specs.Element.{Element, Elements, none, more, Rule, bodies, body_of}
use Rattle.abnfread.specs.AbnfViews.{element_of, elements, elements_of}
use Rattle.abnfread.specs.declared.elem.Elem.{Elem}
use Rattle.abnfcheck.specs.Derivable as der
use Rattle.abnfcheck.specs.Derivable.{AreLetters, Derives, DerivesAll, DerivesSome, DerivesTimes, all_done}
use Rattle.abnfcheck.specs.Derivable.{then, this, later, no_more, one_more, Spelled, StandsFor, RuleDerives}
use Rattle.ruletable.specs.Letters.{small}
use Rattle.abnfcheck.specs.RuleMarks.{AreProductive}
use Rattle.abnfhints.specs.WithoutLetter.{IsWithout, keeps_text, drops_text, keeps_values, drops_values, keeps_range}
use Rattle.abnfhints.specs.WithoutLetter.{cuts_range, splits_range, in_concat, in_alt, in_rep, in_opt, keeps_name}
use Rattle.abnfhints.specs.WithoutLetter.{AreWithout, none_without, more_without, AreRulesWithout}
use Rattle.abnfhints.specs.WithoutLetter.{no_rules, one_rule}

-- whether the letter stands in a list
pub any_holds : (xs : List ℕ) (c letter : ℕ) → c ≡ letter → (x : ℕ) × (x < length xs) × ((d : ℕ)
    → (get_or xs x d == c) ≡ true) → Contains xs letter
any_holds xs c letter is h = (h.0, h.1, eqb-true (get_or xs h.0 letter) c (h.2 letter) ∙ is)

pub none_holds : (xs : List ℕ) (c letter : ℕ) → c ≡ letter → ((k d : ℕ) → 0 ≤ k → k < length xs
    → (get_or xs k d == c) ≡ false) → Contains xs letter → ⊥
none_holds xs c letter is other h =
    let yes = eq-eqb (get_or xs h.0 letter) c (h.2 ∙ sym is) in
    let never = other h.0 letter (omega arith) h.1 in
    absurd (cc (yes, never))

pub splits_at : (letter l low high : ℕ) → l ≡ letter → low < l → l ≤ high → IsWithout letter (e.Range low high)
    (e.Alt (more (e.Range low (l - 1)) (more (e.Range (l + 1) high) none)))
splits_at letter l low high is lt le =
    let P : ℕ → Type 0 = λ v. IsWithout letter (e.Range low high)
    (e.Alt (more (e.Range low (v - 1)) (more (e.Range (v + 1) high) none))) in
    subst P (sym is) (splits_range (omega (arith, lt, is)) (omega (arith, le, is)))

abbrev snoc : Elements → Element → Elements
snoc none d = more d none
snoc (more e es) d = more e (snoc es d)

snoc_is : (es : List Element) (el : Element) → elements (es ++ el ∷ []) ≡ snoc (elements es) el
snoc_is [] el = refl
snoc_is (c ∷ es) el = ap (λ v. more c v) (snoc_is es el)

push_is : (es : List Elem) (v : Elem) → elements_of (es ++ v ∷ []) ≡ snoc (elements_of es) (element_of v)
push_is es v = ap elements (map-append element_of es (v ∷ [])) ∙ snoc_is (map element_of es) (element_of v)

next_is : (es : List Elem) (i : ℕ) (v : Elem) → i < length es → v ≡ get_or es i v →
    elements_of (take (i + 1) es) ≡ snoc (elements_of (take i es)) (element_of v)
next_is es i v lt is =
    ap (λ k. elements_of (take k es)) (add-one i) ∙ ap elements_of (take-suc es i v lt)
    ∙ ap (λ w. elements_of (take i es ++ w ∷ [])) (sym is) ∙ push_is (take i es) v

without_push : (letter : ℕ) {es ds : Elements} (el d : Element) → AreWithout letter es ds → IsWithout letter el d
    → AreWithout letter (snoc es el) (snoc ds d)
without_push letter el d none_without k = more_without k none_without
without_push letter el d (more_without j ks) k = more_without j (without_push letter el d ks k)

pub next_without : (letter : ℕ) (es ds : List Elem) (i : ℕ) (v d : Elem) → i < length es → v ≡ get_or es i v
    → AreWithout letter (elements_of (take i es)) (elements_of ds) → IsWithout letter (element_of v) (element_of d)
    → AreWithout letter (elements_of (take (i + 1) es)) (elements_of (ds ++ d ∷ []))
next_without letter es ds i v d lt is ks k =
    rw (next_is es i v lt is, push_is ds d) (without_push letter (element_of v) (element_of d) ks k)

-- a letter that has no case
module _ (letter : ℕ) (low : letter < 65) where
  small_is : (c : ℕ) → small c ≡ letter → c ≡ letter
  small_is c h = grind (arith, nat_tests)

  small_letter : small letter ≡ letter
  small_letter = grind (arith, nat_tests)

  stands_back : (folds : Bool) (t c : ℕ) → StandsFor folds t c → t ≡ letter → c ≡ letter
  stands_back true t c s is = small_is c (s ∙ ap small is ∙ small_letter)
  stands_back false t c s is = s ∙ is

  stands_forth : (folds : Bool) (t c : ℕ) → StandsFor folds t c → c ≡ letter → t ≡ letter
  stands_forth true t c s is = small_is t (sym s ∙ ap small is ∙ small_letter)
  stands_forth false t c s is = sym s ∙ is

  head_holds : (c : ℕ) (cs : List ℕ) → c ≡ letter → Contains (c ∷ cs) letter
  head_holds c cs is = subst (λ v. Contains (c ∷ cs) v) is (in_first c cs)

  spelled_holds : {folds : Bool} {t w : List ℕ} → Spelled folds t w → Contains t letter → Contains w letter
  spelled_holds der.end h = h
  spelled_holds (der.next {folds = folds} {t = t} {c = c} {ts = ts} {cs = cs} s rest) h = ⊎_elim
      (λ is. head_holds c cs (stands_back folds t c s is))
      (λ later. in_later c letter cs (spelled_holds rest later))
      (cons_cases t letter ts h)

  holds_spelled : {folds : Bool} {t w : List ℕ} → Spelled folds t w → Contains w letter → Contains t letter
  holds_spelled der.end h = h
  holds_spelled (der.next {folds = folds} {t = t} {c = c} {ts = ts} {cs = cs} s rest) h = ⊎_elim
      (λ is. head_holds t ts (stands_forth folds t c s is))
      (λ later. in_later t letter ts (holds_spelled rest later))
      (cons_cases c letter cs h)

-- a list in which it does not stand
abbrev Avoids : ℕ → List ℕ → Type 0
Avoids letter w = Contains w letter → ⊥

avoids_left : (letter : ℕ) (w v : List ℕ) → Avoids letter (w ++ v) → Avoids letter w
avoids_left letter w v never h = never (Contains-append_left w v letter h)

avoids_right : (letter : ℕ) (w v : List ℕ) → Avoids letter (w ++ v) → Avoids letter v
avoids_right letter w v never h = never (Contains-append_right w v letter h)

avoids_both : (letter : ℕ) (w v : List ℕ) → Avoids letter w → Avoids letter v → Avoids letter (w ++ v)
avoids_both letter w v never other h = ⊎_elim never other (Contains-append_cases w v letter h)

avoids_one : (letter c : ℕ) → (c ≡ letter → ⊥) → Avoids letter (c ∷ [])
avoids_one letter c ne h = ne (only_one c letter h)

-- what is left of a rule's body
record LeftOf (letter : ℕ) (el : Element) (found : Option Element) : Type 0 where
  pub left : Element
  pub is : found ≡ Some left
  pub without : IsWithout letter el left

record LeftFrom (letter : ℕ) (d : Element) (found : Option Element) : Type 0 where
  pub whole : Element
  pub is : found ≡ Some whole
  pub without : IsWithout letter whole d

named_left : (letter : ℕ) {rules left : List Rule} → AreRulesWithout letter rules left → (n : List ℕ) (el : Element)
    → body_of rules n ≡ Some el → LeftOf letter el (body_of left n)
named_left letter no_rules n el h = absurd (cc h)
named_left letter (one_rule {rule = rule} {left = l} {rules = rules} {lefts = lefts} same w rest) n el h =
    subst (λ v. LeftOf letter el (cond (same_name Fold n v) (Some l.body) (body_of lefts n))) (sym same)
    (step (same_name Fold n rule.name) h (λ later. named_left letter rest n el later))
  where
    step : (b : Bool) → cond b (Some rule.body) (body_of rules n) ≡ Some el
        → (body_of rules n ≡ Some el → LeftOf letter el (body_of lefts n)) →
        LeftOf letter el (cond b (Some l.body) (body_of lefts n))
    step true is others = let this_one : rule.body ≡ el = cc is in
        record { left = l.body; is = refl; without = subst (λ v. IsWithout letter v l.body) this_one w }
    step false is others = others is

named_from : (letter : ℕ) {rules left : List Rule} → AreRulesWithout letter rules left → (n : List ℕ) (d : Element)
    → body_of left n ≡ Some d → LeftFrom letter d (body_of rules n)
named_from letter no_rules n d h = absurd (cc h)
named_from letter (one_rule {rule = rule} {left = l} {rules = rules} {lefts = lefts} same w rest) n d h =
    step (same_name Fold n rule.name)
    (subst (λ v. cond (same_name Fold n v) (Some l.body) (body_of lefts n) ≡ Some d) same h)
    (λ later. named_from letter rest n d later)
  where
    step : (b : Bool) → cond b (Some l.body) (body_of lefts n) ≡ Some d
        → (body_of lefts n ≡ Some d → LeftFrom letter d (body_of rules n)) →
        LeftFrom letter d (cond b (Some rule.body) (body_of rules n))
    step true is others = let this_one : l.body ≡ d = cc is in
        record { whole = rule.body; is = refl; without = subst (λ v. IsWithout letter rule.body v) this_one w }
    step false is others = others is

at_left : (letter : ℕ) {rules left : List Rule} → AreRulesWithout letter rules left → (id : ℕ) (el : Element)
    → slice_get (bodies rules) id ≡ Some el → LeftOf letter el (slice_get (bodies left) id)
at_left letter no_rules id el h = absurd (cc h)
at_left letter (one_rule {rule = rule} {left = l} same w rest) zero el h = let this_one : rule.body ≡ el = cc h in
    record { left = l.body; is = refl; without = subst (λ v. IsWithout letter v l.body) this_one w }
at_left letter (one_rule same w rest) (suc id) el h = at_left letter rest id el h

at_from : (letter : ℕ) {rules left : List Rule} → AreRulesWithout letter rules left → (id : ℕ) (d : Element)
    → slice_get (bodies left) id ≡ Some d → LeftFrom letter d (slice_get (bodies rules) id)
at_from letter no_rules id d h = absurd (cc h)
at_from letter (one_rule {rule = rule} {left = l} same w rest) zero d h = let this_one : l.body ≡ d = cc h in
    record { whole = rule.body; is = refl; without = subst (λ v. IsWithout letter rule.body v) this_one w }
at_from letter (one_rule same w rest) (suc id) d h = at_from letter rest id d h

many_left : (letter : ℕ) {rules left : List Rule} → AreRulesWithout letter rules left → length left ≡ length rules
many_left letter no_rules = refl
many_left letter (one_rule same w rest) = ap suc (many_left letter rest)

-- what is derived
module _ (has : ℕ → Bool) (letter : ℕ) (low_letter : letter < 65) (rules left : List Rule)
    (are : AreRulesWithout letter rules left) where
  empty_range : {low c : ℕ} → low ≡ letter → low ≤ c → Avoids letter (c ∷ []) → letter + 1 ≤ c
  empty_range {low = low} {c = c} same from never = ⊎_elim
      (λ is. absurd (never (head_holds letter low_letter c [] is)))
      (λ ne. omega (arith, same, from, ne))
      (cases_eq c letter)

  split_range : {low high c : ℕ} → low ≤ c → c ≤ high → has c ≡ true → Avoids letter (c ∷ []) → Derives has left
      (e.Alt (more (e.Range low (letter - 1)) (more (e.Range (letter + 1) high) none))) (c ∷ [])
  split_range {low = low} {high = high} {c = c} from to is never = ⊎_elim
      (λ lt. der.alt (this (der.range from (omega (arith, lt)) is)))
      (λ le. der.alt (later (this (der.range (⊎_elim
      (λ same. absurd (never (head_holds letter low_letter c [] same)))
      (λ ne. omega (arith, le, ne)) (cases_eq c letter)) to is))))
      (cases_lt c letter)

  mutual
    left_derives : {el d : Element} {w : List ℕ} → Derives has rules el w → Avoids letter w → IsWithout letter el d
        → Derives has left d w
    left_derives (der.text s) never (keeps_text no_letter) = der.text s
    left_derives (der.text s) never (drops_text h) = absurd (never (spelled_holds letter low_letter s h))
    left_derives (der.values all) never (keeps_values no_letter) = der.values all
    left_derives (der.values all) never (drops_values h) = absurd (never h)
    left_derives (der.range from to is) never (keeps_range out) = der.range from to is
    left_derives (der.range from to is) never (cuts_range same) = der.range (empty_range same from never) to is
    left_derives (der.range from to is) never (splits_range lt le) = split_range from to is never
    left_derives (der.concat d) never (in_concat ws) = der.concat (all_derive d never ws)
    left_derives (der.alt d) never (in_alt ws) = der.alt (some_derive d never ws)
    left_derives (der.rep few many d) never (in_rep w) = der.rep few many (times_derive d never w)
    left_derives der.opt_empty never (in_opt w) = der.opt_empty
    left_derives (der.opt d) never (in_opt w) = der.opt (left_derives d never w)
    left_derives (der.name {n = n} {e = el} found d) never keeps_name =
        let b = named_left letter are n el found in der.name b.is (left_derives d never b.without)

    all_derive : {es ds : Elements} {w : List ℕ} → DerivesAll has rules es w → Avoids letter w
        → AreWithout letter es ds → DerivesAll has left ds w
    all_derive all_done never none_without = all_done
    all_derive (then {w = w} {v = v} d rest) never (more_without k ks) =
        then (left_derives d (avoids_left letter w v never) k) (all_derive rest (avoids_right letter w v never) ks)

    some_derive : {es ds : Elements} {w : List ℕ} → DerivesSome has rules es w → Avoids letter w
        → AreWithout letter es ds → DerivesSome has left ds w
    some_derive (this d) never (more_without k ks) = this (left_derives d never k)
    some_derive (later d) never (more_without k ks) = later (some_derive d never ks)

    times_derive : {el d : Element} {k : ℕ} {w : List ℕ} → DerivesTimes has rules el k w → Avoids letter w
        → IsWithout letter el d → DerivesTimes has left d k w
    times_derive no_more never k = no_more
    times_derive (one_more {w = w} {v = v} d rest) never k = one_more
        (left_derives d (avoids_left letter w v never) k) (times_derive rest (avoids_right letter w v never) k)

  -- the lists of an element in which the letter does not stand
  abbrev Spares : Element → List ℕ → Type 0
  Spares el w = Derives has rules el w × Avoids letter w

  mutual
    whole_derives : {el d : Element} {w : List ℕ} → Derives has left d w → IsWithout letter el d → Spares el w
    whole_derives (der.text s) (keeps_text no_letter) =
        (der.text s, λ h. no_letter (holds_spelled letter low_letter s h))
    whole_derives (der.values all) (keeps_values no_letter) = (der.values all, no_letter)
    whole_derives (der.range {c = c} from to is) (keeps_range out) = (
      der.range from to is,
      avoids_one letter c (λ same. out (omega (arith, from, same)) (omega (arith, to, same))),
    )
    whole_derives (der.range {c = c} from to is) (cuts_range same) = (
      der.range (omega (arith, from, same)) to is,
      avoids_one letter c (λ here. omega (arith, from, here)),
    )
    whole_derives (der.alt d) (drops_text h) = elim d [ ]
    whole_derives (der.alt d) (drops_values h) = elim d [ ]
    whole_derives (der.alt (this (der.range {c = c} from to is))) (splits_range lt le) = (
      der.range from (omega (arith, to, lt, le)) is,
      avoids_one letter c (λ here. omega (arith, to, here, lt)),
    )
    whole_derives (der.alt (later (this (der.range {c = c} from to is)))) (splits_range lt le) = (
      der.range (omega (arith, from, lt)) to is,
      avoids_one letter c (λ here. omega (arith, from, here)),
    )
    whole_derives (der.alt (later (later d))) (splits_range lt le) = elim d [ ]
    whole_derives (der.concat d) (in_concat ws) = let a = all_whole d ws in (der.concat a.0, a.1)
    whole_derives (der.alt d) (in_alt ws) = let a = some_whole d ws in (der.alt a.0, a.1)
    whole_derives (der.rep few many d) (in_rep w) = let a = times_whole d w in (der.rep few many a.0, a.1)
    whole_derives der.opt_empty (in_opt w) = (der.opt_empty, λ h. none_of letter h)
    whole_derives (der.opt d) (in_opt w) = let a = whole_derives d w in (der.opt a.0, a.1)
    whole_derives (der.name {n = n} {e = el} found d) keeps_name =
        let b = named_from letter are n el found in
        let a = whole_derives d b.without in (der.name b.is a.0, a.1)

    all_whole : {es ds : Elements} {w : List ℕ} → DerivesAll has left ds w → AreWithout letter es ds
        → DerivesAll has rules es w × Avoids letter w
    all_whole all_done none_without = (all_done, λ h. none_of letter h)
    all_whole (then {w = w} {v = v} d rest) (more_without k ks) =
        let a = whole_derives d k in let b = all_whole rest ks in (then a.0 b.0, avoids_both letter w v a.1 b.1)

    some_whole : {es ds : Elements} {w : List ℕ} → DerivesSome has left ds w → AreWithout letter es ds
        → DerivesSome has rules es w × Avoids letter w
    some_whole (this d) (more_without k ks) = let a = whole_derives d k in (this a.0, a.1)
    some_whole (later d) (more_without k ks) = let a = some_whole d ks in (later a.0, a.1)

    times_whole : {el d : Element} {k : ℕ} {w : List ℕ} → DerivesTimes has left d k w → IsWithout letter el d
        → DerivesTimes has rules el k w × Avoids letter w
    times_whole no_more k = (no_more, λ h. none_of letter h)
    times_whole (one_more {w = w} {v = v} d rest) k =
        let a = whole_derives d k in let b = times_whole rest k in
        (one_more a.0 b.0, avoids_both letter w v a.1 b.1)

-- the marks of what is left say which rules derive some list without the letter
pub record Sparing (has : ℕ → Bool) (letter : ℕ) (rules : List Rule) (id : ℕ) : Type 0 where
  pub word : List ℕ
  pub letters : AreLetters has word
  pub derives : RuleDerives has rules id word
  pub avoids : Avoids letter word

pub left_marks : (alphabet : Alphabet) (letter : ℕ) → letter < 65 → (rules left : List Rule)
    → AreRulesWithout letter rules left → (marks : List Bool) → AreProductive alphabet left marks → (id : ℕ)
    → id < length rules → (IsMarked marks id ↔ Sparing (in_alphabet alphabet) letter rules id)
left_marks alphabet letter low rules left are marks report id lt = (
  (λ on.
      let p = (report.exact id (omega (arith, lt, many_left letter are))).0 on in
      let b = at_from letter are id p.2.body p.2.is in
      let d = whole_derives (in_alphabet alphabet) letter low rules left are p.2.derives b.without in
      record {
        word = p.0;
        letters = p.1;
        derives = record { body = b.whole; is = b.is; derives = d.0 };
        avoids = d.1;
      }),
  (λ s.
      let b = at_left letter are id s.derives.body s.derives.is in
      (report.exact id (omega (arith, lt, many_left letter are))).1 (
        s.word,
        s.letters,
        record {
          body = b.left;
          is = b.is;
          derives = left_derives (in_alphabet alphabet) letter low rules left are s.derives.derives s.avoids b.without;
        },
      )),
)
