-- Needs that are added change nothing of what the others ask for.
-- Serves: nullable_rules, productive
use Rattle.std.proofs.Common.{◌≡◌, ℕ, zero, suc, ◌+◌, ◌<◌, ◌≤◌, ◌⊎◌, inl, inr, ⊎_elim, Bool, true, List, [], ◌∷◌, ◌++◌}
use Rattle.std.proofs.Common.{length, map, take, set, get_or, replicate, Some, refl, sym, ◌∙◌, ap, subst, arith}
use Rattle.std.proofs.Common.{add-one, append_assoc, append-nil, length-append, length-set}
use Rattle.std.specs.Prelude.{slice_get, Contains}
use Rattle.std.proofs.Math.Seq.{take-suc}
use Rattle.std.proofs.lemmas.Bool.{cases_eq}
use Rattle.std.proofs.lemmas.List.{map-append, length-map}
use Rattle.fixpoint.specs.Demands.{Demand, All, One, row_of, AreNeedsWithin, owned_demand_of, owned_demands_of}
use Rattle.fixpoint.specs.declared.owned.OwnedNeed.{OwnedNeed}
use Rattle.fixpoint.proofs.ContainsLemmas.{none_of, only_one, cons_cases}
use Rattle.abnfread.specs.Element.{Element, Elements, Rule, bodies, id_of, none}
use Rattle.abnfread.specs.AbnfViews.{elements, element_of, elements_of}
use Rattle.abnfread.specs.declared.elem.Elem.{Elem}
use Rattle.abnfcheck.specs.declared.aim.Aim.{Aim}
use Rattle.abnfcheck.specs.declared.aim.Aim.TheVariants.{Empty, Letters}
use Rattle.ruletable.specs.Letters.{has as in_alphabet}
use Rattle.abnfcheck.specs.RuleMarks.{Asks, asks, IsNeedOf, of_met, of_unmet, of_concat, of_alt, of_rep, of_name}
use Rattle.abnfcheck.specs.RuleMarks.{AskAll, ask_none, ask_more, HaveBodyNeeds, IsNumbered, IsTestOf, AreNumbered}

get_below : {A : Type 0} (xs : List A) (n : ℕ) {a : A} → slice_get xs n ≡ Some a → n < length xs
get_below [] n is = absurd (cc is)
get_below (x ∷ xs) zero is = omega arith
get_below (x ∷ xs) (suc n) is = let lt = get_below xs n is in omega (arith, lt)

get_left : {A : Type 0} (xs ys : List A) (n : ℕ) {a : A} → slice_get xs n ≡ Some a → slice_get (xs ++ ys) n ≡ Some a
get_left [] ys n is = absurd (cc is)
get_left (x ∷ xs) ys zero is = is
get_left (x ∷ xs) ys (suc n) is = get_left xs ys n is

get_last : {A : Type 0} (xs : List A) (a : A) → slice_get (xs ++ a ∷ []) (length xs) ≡ Some a
get_last [] a = refl
get_last (x ∷ xs) a = get_last xs a

get_pushed : {A : Type 0} (xs : List A) (a : A) (n : ℕ) {b : A} → slice_get (xs ++ a ∷ []) n ≡ Some b
    → (slice_get xs n ≡ Some b) ⊎ (a ≡ b)
get_pushed [] a zero is = inr (cc is)
get_pushed [] a (suc n) is = absurd (cc is)
get_pushed (x ∷ xs) a zero is = inl is
get_pushed (x ∷ xs) a (suc n) is = get_pushed xs a n is

get_set : {A : Type 0} (xs : List A) (i : ℕ) (a : A) (n : ℕ) → (n ≡ i → ⊥) → slice_get (set xs i a) n ≡ slice_get xs n
get_set [] i a n other = refl
get_set (x ∷ xs) zero a zero other = absurd (other refl)
get_set (x ∷ xs) zero a (suc n) other = refl
get_set (x ∷ xs) (suc i) a zero other = refl
get_set (x ∷ xs) (suc i) a (suc n) other = get_set xs i a n (λ is. other (ap suc is))

get_set_here : {A : Type 0} (xs : List A) (i : ℕ) (a : A) → i < length xs → slice_get (set xs i a) i ≡ Some a
get_set_here [] i a lt = absurd (omega (arith, lt))
get_set_here (x ∷ xs) zero a lt = refl
get_set_here (x ∷ xs) (suc i) a lt = get_set_here xs i a (omega (arith, lt))

module _ (has : ℕ → Bool) (rules : List Rule) (aim : Aim) (xs ys : List Demand)
    (same : (n : ℕ) (d : Demand) → length rules ≤ n → slice_get xs n ≡ Some d → slice_get ys n ≡ Some d) where
  mutual
    pub still_asks : {n : ℕ} {el : Element} → Asks has rules aim xs n el → Asks has rules aim ys n el
    still_asks (asks {n = n} {need = need} le is of) = asks le (same n need le is) (still_need of)

    still_need : {need : Demand} {el : Element} → IsNeedOf has rules aim xs need el → IsNeedOf has rules aim ys need el
    still_need (of_met y) = of_met y
    still_need (of_unmet bad) = of_unmet bad
    still_need (of_concat all) = of_concat (still_all all)
    still_need (of_alt all) = of_alt (still_all all)
    still_need (of_rep some within a) = of_rep some within (still_asks a)
    still_need (of_name lt) = of_name lt

    pub still_all : {ms : List ℕ} {es : Elements} → AskAll has rules aim xs ms es → AskAll has rules aim ys ms es
    still_all ask_none = ask_none
    still_all (ask_more a all) = ask_more (still_asks a) (still_all all)

-- numbers of elements have needs
asks_below : (has : ℕ → Bool) (rules : List Rule) (aim : Aim) (xs : List Demand) {n : ℕ} {el : Element}
    → Asks has rules aim xs n el → n < length xs
asks_below has rules aim xs (asks {n = n} le is of) = get_below xs n is

all_below : (has : ℕ → Bool) (rules : List Rule) (aim : Aim) (xs : List Demand) {ms : List ℕ} {es : Elements}
    → AskAll has rules aim xs ms es → (m : ℕ) → Contains ms m → m < length xs
all_below has rules aim xs ask_none m h = absurd (none_of m h)
all_below has rules aim xs (ask_more {m = first} {ms = ms} a all) m h =
    ⊎_elim (λ is. subst (λ v. v < length xs) is (asks_below has rules aim xs a))
    (λ later. all_below has rules aim xs all m later) (cons_cases first m ms h)

row_below : (has : ℕ → Bool) (rules : List Rule) (aim : Aim) (xs : List Demand) {need : Demand} {el : Element}
    → length rules ≤ length xs → IsNeedOf has rules aim xs need el →
    (m : ℕ) → Contains (row_of need) m → m < length xs
row_below has rules aim xs fits (of_met y) m h = absurd (none_of m h)
row_below has rules aim xs fits (of_unmet bad) m h = absurd (none_of m h)
row_below has rules aim xs fits (of_concat all) m h = all_below has rules aim xs all m h
row_below has rules aim xs fits (of_alt all) m h = all_below has rules aim xs all m h
row_below has rules aim xs fits (of_rep {m = k} some within asked) m h = subst (λ v. v < length xs) (only_one k m h)
    (asks_below has rules aim xs asked)
row_below has rules aim xs fits (of_name {name = name} lt) m h = let same = only_one (id_of rules name) m h in
    omega (arith, same, lt, fits)

within_push : (xs : List Demand) (need : Demand) → AreNeedsWithin xs
    → ((m : ℕ) → Contains (row_of need) m → m < length xs) → AreNeedsWithin (xs ++ need ∷ [])
within_push xs need w below = record {
  within = λ n m other is h.
      let l = length-append xs (need ∷ []) in
      let lt : m < length xs = ⊎_elim (λ old. w.within n m other old h)
      (λ same. below m (subst (λ v. Contains (row_of v) m) (sym same) h)) (get_pushed xs need n is) in
      omega (arith, lt, l);
}

-- one more element: its need comes after those that were there
module _ (has : ℕ → Bool) (rules : List Rule) (aim : Aim) (old now new : List Demand) (need : Demand) (n : ℕ)
    (el : Element) (is : new ≡ now ++ need ∷ []) (at : n ≡ length now) where
  need_numbered : (added : List Demand) → now ≡ old ++ added
      → (length rules ≤ length old → IsNeedOf has rules aim now need el)
      → (length rules ≤ length old → AreNeedsWithin old → AreNeedsWithin now) →
      IsNumbered has rules aim old new n el
  need_numbered added grown of within = record {
    added = added ++ need ∷ [];
    grown = is ∙ ap (λ l. l ++ need ∷ []) grown ∙ append_assoc old added (need ∷ []);
    asked = λ fits. subst (λ v. Asks has rules aim v n el) (sym is)
        (subst (λ v. Asks has rules aim (now ++ need ∷ []) v el) (sym at)
        (asks (longer fits) (get_last now need) (still_need has rules aim now (now ++ need ∷ [])
        (λ k d le here. get_left now (need ∷ []) k here) (of fits))));
    within = λ fits w. subst AreNeedsWithin (sym is)
        (within_push now need (within fits w) (row_below has rules aim now (longer fits) (of fits)));
  }
    where
      longer : length rules ≤ length old → length rules ≤ length now
      longer fits = let l = ap length grown ∙ length-append old added in omega (arith, fits, l)

module _ (has : ℕ → Bool) {rules : List Rule} {aim : Aim} (need : OwnedNeed) {n : ℕ} {el : Element} where
  pub leaf_numbered : (old : List OwnedNeed) {new : List OwnedNeed} → new ≡ old ++ need ∷ [] → n ≡ length old
      → IsNeedOf has rules aim (owned_demands_of old) (owned_demand_of need) el
      → IsNumbered has rules aim (owned_demands_of old) (owned_demands_of new) n el
  leaf_numbered old {new} is at of =
      need_numbered has rules aim (owned_demands_of old) (owned_demands_of old) (owned_demands_of new)
      (owned_demand_of need) n el (ap owned_demands_of is ∙ map-append owned_demand_of old (need ∷ []))
      (at ∙ sym (length-map old owned_demand_of))
      [] (sym (append-nil (owned_demands_of old))) (λ fits. of) (λ fits w. w)

  pub operand_numbered : (old now : List OwnedNeed) {new : List OwnedNeed} {m : ℕ} {d : Element}
      → new ≡ now ++ need ∷ [] → n ≡ length now
      → IsNumbered has rules aim (owned_demands_of old) (owned_demands_of now) m d →
      (Asks has rules aim (owned_demands_of now) m d → IsNeedOf has rules aim (owned_demands_of now)
      (owned_demand_of need) el) → IsNumbered has rules aim (owned_demands_of old) (owned_demands_of new) n el
  operand_numbered old now {new} is at g of =
      need_numbered has rules aim (owned_demands_of old) (owned_demands_of now)
      (owned_demands_of new) (owned_demand_of need) n el
      (ap owned_demands_of is ∙ map-append owned_demand_of now (need ∷ [])) (at ∙ sym (length-map now owned_demand_of))
      g.added g.grown (λ fits. of (g.asked fits)) g.within

  pub over_all : (old now : List OwnedNeed) {new : List OwnedNeed} {ms : List ℕ} {es : Elements}
      → new ≡ now ++ need ∷ [] → n ≡ length now
      → AreNumbered has rules aim (owned_demands_of old) (owned_demands_of now) ms es →
      (AskAll has rules aim (owned_demands_of now) ms es → IsNeedOf has rules aim (owned_demands_of now)
      (owned_demand_of need) el) → IsNumbered has rules aim (owned_demands_of old) (owned_demands_of new) n el
  over_all old now {new} is at g of = need_numbered has rules aim (owned_demands_of old) (owned_demands_of now)
      (owned_demands_of new) (owned_demand_of need) n el
      (ap owned_demands_of is ∙ map-append owned_demand_of now (need ∷ [])) (at ∙ sym (length-map now owned_demand_of))
      g.added g.grown (λ fits. of (g.asked fits)) g.within

-- members, one by one
pub no_members : (has : ℕ → Bool) (rules : List Rule) (aim : Aim) (old : List Demand) (ns : List ℕ) → ns ≡ []
    → AreNumbered has rules aim old old ns none
no_members has rules aim old ns is = record {
  added = [];
  grown = sym (append-nil old);
  asked = λ fits. subst (λ v. AskAll has rules aim old v none) (sym is) ask_none;
  within = λ fits w. w;
}

all_push : (has : ℕ → Bool) (rules : List Rule) (aim : Aim) (xs : List Demand) (ms : List ℕ) (els : List Element)
    (m : ℕ) (el : Element) → AskAll has rules aim xs ms (elements els) → Asks has rules aim xs m el →
    AskAll has rules aim xs (ms ++ m ∷ []) (elements (els ++ el ∷ []))
all_push has rules aim xs [] [] m el ask_none a = ask_more a ask_none
all_push has rules aim xs [] (first ∷ els) m el all a = elim all [ ]
all_push has rules aim xs (k ∷ ms) [] m el all a = elim all [ ]
all_push has rules aim xs (k ∷ ms) (first ∷ els) m el (ask_more b all) a =
    ask_more b (all_push has rules aim xs ms els m el all a)

pub next_member : (has : ℕ → Bool) {rules : List Rule} {aim : Aim} {old now new : List Demand} {ns : List ℕ} {n : ℕ}
    (es : List Elem) {i : ℕ} {el : Elem} → i < length es → el ≡ get_or es i el →
    AreNumbered has rules aim old now ns (elements_of (take i es)) → IsNumbered has rules aim now new n (element_of el)
    → AreNumbered has rules aim old new (ns ++ n ∷ []) (elements_of (take (i + 1) es))
next_member has {rules} {aim} {old} {now} {new} {ns} {n} es {i} {el} lt is g h = record {
  added = g.added ++ h.added;
  grown = h.grown ∙ ap (λ l. l ++ h.added) g.grown ∙ append_assoc old g.added h.added;
  asked = λ fits. subst (λ v. AskAll has rules aim new (ns ++ n ∷ []) v) (sym one)
      (all_push has rules aim new ns (map element_of (take i es)) n (element_of el)
      (subst (λ v. AskAll has rules aim v ns (elements_of (take i es))) (sym h.grown)
      (still_all has rules aim now (now ++ h.added) (λ k d le here. get_left now h.added k here) (g.asked fits)))
      (h.asked (longer fits)));
  within = λ fits w. h.within (longer fits) (g.within fits w);
}
  where
    longer : length rules ≤ length old → length rules ≤ length now
    longer fits = let l = ap length g.grown ∙ length-append old g.added in omega (arith, fits, l)

    one : elements_of (take (i + 1) es) ≡ elements (map element_of (take i es) ++ element_of el ∷ [])
    one = ap elements_of (ap (λ (k : ℕ). take k es) (add-one i) ∙ take-suc es i el lt
        ∙ ap (λ x. take i es ++ x ∷ []) (sym is)) ∙ ap elements (map-append element_of (take i es) (el ∷ []))

-- a test of letters by which an aim asks
pub some_test : (aim : Aim) → (has : ℕ → Bool) × IsTestOf aim has
some_test Empty = ((λ v. true), tt)
some_test (Letters alphabet) = (in_alphabet alphabet, refl)

-- rules, one by one
pub record AreRuleNeeds (has : ℕ → Bool) (rules : List Rule) (aim : Aim) (needs : List Demand) (i : ℕ) : Type 0 where
  pub fits : length rules ≤ length needs
  pub within : AreNeedsWithin needs
  pub have : HaveBodyNeeds has rules aim needs i

pub no_rule_needs : (has : ℕ → Bool) (rules : List Rule) (aim : Aim) (needs : List Demand)
    → needs ≡ replicate (length rules) (One []) → AreRuleNeeds has rules aim needs 0
no_rule_needs has rules aim needs is = record {
  fits = let l = ap length is ∙ long (length rules) in omega (arith, l);
  within = record {
    within = λ n m need at h. absurd (none_of m
        (subst (λ v. Contains (row_of v) m) (never (length rules) n need (sym (ap (λ l. slice_get l n) is) ∙ at)) h));
  };
  have = λ id body lt at. absurd (omega (arith, lt));
}
  where
    long : (k : ℕ) → length (replicate k (One [])) ≡ k
    long zero = refl
    long (suc k) = ap suc (long k)

    never : (k n : ℕ) (need : Demand) → slice_get (replicate k (One [])) n ≡ Some need → need ≡ One []
    never zero n need at = absurd (cc at)
    never (suc k) zero need at = cc at
    never (suc k) (suc n) need at = never k n need at

pub room_for_rule : (has : ℕ → Bool) (rules : List Rule) (aim : Aim) (old now : List Demand) (i n : ℕ) (body : Element)
    → i < length rules → AreRuleNeeds has rules aim old i →
    IsNumbered has rules aim old now n body → i < length now
room_for_rule has rules aim old now i n body lt r g = let l = ap length g.grown ∙ length-append old g.added in let f =
    r.fits in omega (arith, f, l, lt)

pub next_rule : (has : ℕ → Bool) (rules : List Rule) (aim : Aim) (old now : List Demand) (i n : ℕ) (body : Element)
    → i < length rules → slice_get (bodies rules) i ≡ Some body → AreRuleNeeds has rules aim old i →
    IsNumbered has rules aim old now n body → AreRuleNeeds has rules aim (set now i (All (n ∷ []))) (i + 1)
next_rule has rules aim old now i n body lt at r g = record {
  fits = let l = length-set now i (All (n ∷ [])) in omega (arith, l, longer);
  within = record {
    within = λ k m need is h.
        let l = length-set now i (All (n ∷ [])) in
        let less : m < length now = ⊎_elim
        (λ here.
        let one : All (n ∷ []) ≡ need = let s = get_set_here now i (All (n ∷ [])) inside in let t =
        subst (λ v. slice_get (set now i (All (n ∷ []))) v ≡ Some need) here is in cc (s, t) in
        let same = only_one n m (subst (λ v. Contains (row_of v) m) (sym one) h) in
        let low = asks_below has rules aim now (g.asked r.fits) in omega (arith, same, low))
        (λ other. (g.within r.fits r.within).within k m need (sym (get_set now i (All (n ∷ [])) k other) ∙ is) h)
        (cases_eq k i) in
        omega (arith, less, l);
  };
  have = λ id other less here. ⊎_elim
      (λ same.
      let one : body ≡ other = let h = subst (λ v. slice_get (bodies rules) v ≡ Some other) same here in cc (at, h) in
      record {
        number = n;
        need_is = subst (λ v. slice_get (set now i (All (n ∷ []))) v ≡ Some (All (n ∷ []))) (sym same)
            (get_set_here now i (All (n ∷ [])) inside);
        asked = still_asks has rules aim now (set now i (All (n ∷ []))) kept
            (subst (λ v. Asks has rules aim now n v) one (g.asked r.fits));
      })
      (λ ne.
      let before : id < i = omega (arith, less, ne) in
      let b = r.have id other before here in
      record {
        number = b.number;
        need_is = get_set now i (All (n ∷ [])) id ne ∙ ap (λ l. slice_get l id) g.grown
            ∙ get_left old g.added id b.need_is;
        asked = still_asks has rules aim now (set now i (All (n ∷ []))) kept
            (subst (λ v. Asks has rules aim v b.number other) (sym g.grown)
            (still_asks has rules aim old (old ++ g.added) (λ k d le is. get_left old g.added k is) b.asked));
      })
      (cases_eq id i);
}
  where
    longer : length rules ≤ length now
    longer = let l = ap length g.grown ∙ length-append old g.added in let f = r.fits in omega (arith, f, l)

    inside : i < length now
    inside = omega (arith, lt, longer)

    kept : (k : ℕ) (d : Demand) → length rules ≤ k → slice_get now k ≡ Some d → slice_get (set now i (All (n ∷ []))) k
        ≡ Some d
    kept k d le is = get_set now i (All (n ∷ [])) k (λ same. absurd (omega (arith, lt, le, same))) ∙ is
