-- Marks of elements that derive the empty list, from the marks of what stands in them.
-- Serves: lower, lower_viable.
use Rattle.std.proofs.Common.{◌≡◌, ℕ, zero, suc, ◌<◌, Bool, true, false, ◌&&◌, ◌||◌, List, [], ◌∷◌, ◌++◌, Option, Some}
use Rattle.std.proofs.Common.{refl, subst, arith, ◌⊎◌, inl, inr, ⊎_elim}
use Rattle.abnfread.specs.Element as e
use Rattle.abnfread.specs.Element.{Element, Elements, Rule, body_of}
use Rattle.abnfcheck.specs.Derivable as der
use Rattle.abnfcheck.specs.Derivable.{Derives, DerivesAll, DerivesSome, DerivesTimes, all_done, then, this, later}
use Rattle.abnfcheck.specs.Derivable.{no_more, one_more}
use Rattle.abnfread.specs.AbnfViews.{elements}
use Rattle.lowering.specs.NullElements.{IsEmpty, IsNeverEmpty, Settles, SettlesAll, SettlesSome}

module _ (rules : List Rule) where
  -- what an element derives, where that is empty
  no_text : {has : ℕ → Bool} {folds : Bool} {c : ℕ} {t w : List ℕ} → Derives has rules (e.Text folds (c ∷ t)) w
      → w ≡ [] → ⊥
  no_text (der.text (der.next s d)) is = absurd (cc is)

  no_values : {has : ℕ → Bool} {v : ℕ} {vs w : List ℕ} → Derives has rules (e.Values (v ∷ vs)) w → w ≡ [] → ⊥
  no_values (der.values letters) is = absurd (cc is)

  no_range : {has : ℕ → Bool} {low high : ℕ} {w : List ℕ} → Derives has rules (e.Range low high) w → w ≡ [] → ⊥
  no_range (der.range l h is_letter) is = absurd (cc is)

  first_of : {has : ℕ → Bool} {el : Element} {es : Elements} {w : List ℕ} → DerivesAll has rules (e.more el es) w
      → w ≡ [] → Derives has rules el [] × DerivesAll has rules es []
  first_of {has = has} {es = es} (then {w = []} {v = v} d ds) is = (d, subst (λ u. DerivesAll has rules es u) is ds)
  first_of (then {w = c ∷ w} d ds) is = absurd (cc is)

  one_of : {has : ℕ → Bool} {el : Element} {k : ℕ} {w : List ℕ} → DerivesTimes has rules el k w → 0 < k → w ≡ []
      → Derives has rules el []
  one_of no_more lt is = absurd (omega (arith, lt))
  one_of (one_more {w = []} d ds) lt is = d
  one_of (one_more {w = c ∷ w} d ds) lt is = absurd (cc is)

  -- the leaves
  pub text_settles : (folds : Bool) (t : List ℕ) (mark : Bool) → (mark ≡ true → t ≡ []) → (mark ≡ false → t ≡ [] → ⊥)
      → Settles rules mark (e.Text folds t)
  text_settles folds [] mark is isnt = record { yes = λ m has. der.text der.end; no = λ m has d. isnt m refl }
  text_settles folds (c ∷ t) mark is isnt = record { yes = λ m. absurd (cc (is m)); no = λ m has d. no_text d refl }

  pub values_settle : (vs : List ℕ) (mark : Bool) → (mark ≡ true → vs ≡ []) → (mark ≡ false → vs ≡ [] → ⊥)
      → Settles rules mark (e.Values vs)
  values_settle [] mark is isnt = record { yes = λ m has. der.values tt; no = λ m has d. isnt m refl }
  values_settle (v ∷ vs) mark is isnt = record { yes = λ m. absurd (cc (is m)); no = λ m has d. no_values d refl }

  pub range_settles : (low high : ℕ) → Settles rules false (e.Range low high)
  range_settles low high = record { yes = λ m. absurd (cc m); no = λ m has d. no_range d refl }

  pub opt_settles : (el : Element) → Settles rules true (e.Opt el)
  opt_settles el = record { yes = λ m has. der.opt_empty; no = λ m. absurd (cc m) }

  pub prose_settles : (t : List ℕ) → Settles rules false (e.Prose t)
  prose_settles t = record { yes = λ m. absurd (cc m); no = λ m has d. none d }
    where
      none : {has : ℕ → Bool} {t w : List ℕ} → Derives has rules (e.Prose t) w → ⊥
      none d = elim d [ ]

  pub name_settles : (n : List ℕ) (body : Element) (mark : Bool) → body_of rules n ≡ Some body → Settles rules mark body
      → Settles rules mark (e.Name n)
  name_settles n body mark is t = record {
    yes = λ m has. der.name is (t.yes m has);
    no = λ m has d. t.no m has (inner d);
  }
    where
      inner : {has : ℕ → Bool} {w : List ℕ} → Derives has rules (e.Name n) w → Derives has rules body w
      inner {has = has} {w = w} (der.name {e = el} found d) = let same : el ≡ body = cc (found, is) in
          subst (λ v. Derives has rules v w) same d

  -- members and alternatives, one by one
  pub none_settle : SettlesAll rules true e.none
  none_settle = record { yes = λ m has. all_done; no = λ m. absurd (cc m) }

  all_push : {has : ℕ → Bool} (es : List Element) (el : Element) → DerivesAll has rules (elements es) []
      → Derives has rules el [] → DerivesAll has rules (elements (es ++ el ∷ [])) []
  all_push [] el ds d = then d all_done
  all_push (first ∷ es) el ds d = let h = first_of ds refl in then h.0 (all_push es el h.1 d)

  all_pop : {has : ℕ → Bool} (es : List Element) (el : Element) → DerivesAll has rules (elements (es ++ el ∷ [])) []
      → DerivesAll has rules (elements es) [] × Derives has rules el []
  all_pop [] el ds = (all_done, (first_of ds refl).0)
  all_pop (first ∷ es) el ds = let h = first_of ds refl in let g = all_pop es el h.1 in (then h.0 g.0, g.1)

  pub next_settles : (b c : Bool) (es : List Element) (el : Element) → SettlesAll rules b (elements es)
      → Settles rules c el
      → SettlesAll rules (b && c) (elements (es ++ el ∷ []))
  next_settles true true es el ts t = record {
    yes = λ m has. all_push es el (ts.yes refl has) (t.yes refl has);
    no = λ m. absurd (cc m);
  }
  next_settles true false es el ts t = record {
    yes = λ m. absurd (cc m);
    no = λ m has d. t.no refl has (all_pop es el d).1;
  }
  next_settles false c es el ts t = record {
    yes = λ m. absurd (cc m);
    no = λ m has d. ts.no refl has (all_pop es el d).0;
  }

  pub no_alternative_settles : SettlesSome rules false e.none
  no_alternative_settles = record { yes = λ m. absurd (cc m); no = λ m has d. elim d [ ] }

  some_before : {has : ℕ → Bool} (es : List Element) (el : Element) → DerivesSome has rules (elements es) []
      → DerivesSome has rules (elements (es ++ el ∷ [])) []
  some_before [] el d = elim d [ ]
  some_before (first ∷ es) el (this d) = this d
  some_before (first ∷ es) el (later ds) = later (some_before es el ds)

  some_last : {has : ℕ → Bool} (es : List Element) (el : Element) → Derives has rules el []
      → DerivesSome has rules (elements (es ++ el ∷ [])) []
  some_last [] el d = this d
  some_last (first ∷ es) el d = later (some_last es el d)

  some_pop : {has : ℕ → Bool} (es : List Element) (el : Element) → DerivesSome has rules (elements (es ++ el ∷ [])) []
      → DerivesSome has rules (elements es) [] ⊎ Derives has rules el []
  some_pop [] el (this d) = inr d
  some_pop [] el (later ds) = elim ds [ ]
  some_pop (first ∷ es) el (this d) = inl (this d)
  some_pop (first ∷ es) el (later ds) = ⊎_elim (λ h. inl (later h)) (λ h. inr h) (some_pop es el ds)

  pub next_alternative_settles : (b c : Bool) (es : List Element) (el : Element) → SettlesSome rules b (elements es)
      → Settles rules c el → SettlesSome rules (b || c) (elements (es ++ el ∷ []))
  next_alternative_settles true c es el ts t = record {
    yes = λ m has. some_before es el (ts.yes refl has);
    no = λ m. absurd (cc m);
  }
  next_alternative_settles false true es el ts t = record {
    yes = λ m has. some_last es el (t.yes refl has);
    no = λ m. absurd (cc m);
  }
  next_alternative_settles false false es el ts t =
      record {
        yes = λ m. absurd (cc m);
        no = λ m has d. ⊎_elim (λ h. ts.no refl has h) (λ h. t.no refl has h) (some_pop
            es el d);
      }

  pub concat_settles : (b : Bool) (es : Elements) → SettlesAll rules b es → Settles rules b (e.Concat es)
  concat_settles b es t = record { yes = λ m has. der.concat (t.yes m has); no = λ m has d. t.no m has (inner d) }
    where
      inner : {has : ℕ → Bool} {w : List ℕ} → Derives has rules (e.Concat es) w → DerivesAll has rules es w
      inner (der.concat d) = d

  pub alt_settles : (b : Bool) (es : Elements) → SettlesSome rules b es → Settles rules b (e.Alt es)
  alt_settles b es t = record { yes = λ m has. der.alt (t.yes m has); no = λ m has d. t.no m has (inner d) }
    where
      inner : {has : ℕ → Bool} {w : List ℕ} → Derives has rules (e.Alt es) w → DerivesSome has rules es w
      inner (der.alt d) = d

  -- repetitions
  times_empty : {has : ℕ → Bool} {el : Element} (k : ℕ) → Derives has rules el [] → DerivesTimes has rules el k []
  times_empty zero d = no_more
  times_empty (suc k) d = one_more d (times_empty k d)

  pub rep_empty : (a : ℕ) (b : Option ℕ) (el : Element) → der.AtMost a b → (0 < a → IsEmpty rules el)
      → IsEmpty rules (e.Rep a b el)
  rep_empty zero b el within empty has = der.rep {k = zero} (omega arith) within no_more
  rep_empty (suc a) b el within empty has = der.rep {k = suc a} (omega arith) within
      (times_empty (suc a) (empty (omega arith) has))

  pub rep_never : (a : ℕ) (b : Option ℕ) (el : Element) → 0 < a → IsNeverEmpty rules el
      → IsNeverEmpty rules (e.Rep a b el)
  rep_never a b el lt never has d = never has (inner d refl)
    where
      inner : {w : List ℕ} → Derives has rules (e.Rep a b el) w → w ≡ [] → Derives has rules el []
      inner (der.rep low within ds) is = one_of ds (omega (arith, low, lt)) is

  pub rep_reversed : (a b : ℕ) (el : Element) → b < a → IsNeverEmpty rules (e.Rep a (Some b) el)
  rep_reversed a b el lt has (der.rep low within ds) = absurd (omega (arith, low, within, lt))
