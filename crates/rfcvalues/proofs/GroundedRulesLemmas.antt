-- The least set of what rules need is that of the rules that are grounded.
-- Serves: are_values
use Rattle.std.proofs.Common.{◌≡◌, ◌⊎◌, ◌↔◌, ℕ, zero, suc, ◌+◌, ◌<◌, ◌||◌, Bool, true, false, cond, List, [], ◌∷◌, ◌++◌}
use Rattle.std.proofs.Common.{length, map, slice_get, Option, None, Some, Contains, Vec, Global, refl, sym, ap, ◌∙◌}
use Rattle.std.proofs.Common.{arith}
use Rattle.std.proofs.Common.{append-nil, inl, inr, subst}
use Rattle.std.specs.Prelude.{slice_index_or, option_map}
use Rattle.std.specs.List.{filter_map, list_any, cons_option}
use Rattle.std.proofs.lemmas.Bool.{cases_Bool}
use Rattle.std.proofs.lemmas.List.{length-append, length-map}
use Rattle.fixpoint.specs.Demands.{AreNeedsWithin, Demand, All, One, row_of}
use Rattle.fixpoint.specs.Least.{AreMarksOfThose, Comes, by_all, by_one}
use Rattle.ruletable.specs.Rules.{HasUniqueNames, Rule, Rules, bodies_of, find_in, same_name}
use Rattle.ruletable.specs.declared.table.NameCase.TheVariants.{Fold}
use Rattle.diagnostics.specs.NumberLists.{numbers_for, positions_from}
use Rattle.diagnostics.proofs.NumberListsLemmas.{found-within, listed-found, listed-nowhere}
use Rattle.rfcvalues.specs.AssignedValues.{IsGrounded, IsRuleGrounded, by_mark, by_word, is_core, goes_by, of_core}
use Rattle.rfcvalues.specs.GroundedNeeds.{AreGroundedMarks, AreNumbersByName, all_demands, name_demands, rule_demand}
use Rattle.rfcvalues.specs.GroundedNeeds.{word_numbers}
use Rattle.rfcvalues.specs.RuleSketches.{SketchedRule}
use Rattle.std.proofs.Common.{get_or, take, ◌≤◌}
use Rattle.std.specs.Option.{is_some}
use Rattle.std.proofs.lemmas.List.{map-append, take_all, take_more}
use Rattle.std.proofs.lemmas.List.Elements.{filter_map-append}
use Rattle.std.proofs.lemmas.List.Folds.{list_any_at, list_any_more}
use Rattle.std.proofs.lemmas.Option.{get_or_from_slice_get}
use Rattle.abnfread.specs.AbnfTable.{IsCoreTable}
use Rattle.abnfread.specs.AbnfViews.{rule_of}
use Rattle.abnfread.specs.CoreRules.{core_names}
use Rattle.abnfread.specs.Element as element
use Rattle.abnfread.specs.declared.elem.Elem.{Elem}
use Rattle.rfcvalues.proofs.RuleSketchLemmas.{any-map}
use Rattle.rfcvalues.proofs.SameNamesLemmas.{known-any}

abbrev Lists : Type 0
Lists = Rules (Vec ℕ Global)

module _ {A : Type 0} where
  in-first : (x : A) (xs : List A) → Contains (x ∷ xs) x
  in-first x xs = (0, omega arith, refl)

  in-later : (x y : A) (xs : List A) → Contains xs x → Contains (y ∷ xs) x
  in-later x y xs h = (suc h.0, omega (arith, h.1), h.2)

  in-either : (x y : A) (xs : List A) → Contains (y ∷ xs) x → (y ≡ x) ⊎ Contains xs x
  in-either x y xs (zero, lt, e) = inl e
  in-either x y xs (suc k, lt, e) = inr (k, omega (arith, lt), e)

  in-none : (x : A) → Contains [] x → ⊥
  in-none x h = omega (arith, h.1)

  get-left : {B : Type 0} (f : A → B) (xs : List A) (ys : List B) (k : ℕ) (x : A) → slice_get xs k ≡ Some x
      → slice_get (map f xs ++ ys) k ≡ Some (f x)
  get-left f [] ys k x e = absurd (cc e)
  get-left f (z ∷ xs) ys zero x e = (let same : z ≡ x = cc e in ap (λ (y : A). Some (f y)) same)
  get-left f (z ∷ xs) ys (suc k) x e = get-left f xs ys k x e

  get-right : (xs ys : List A) (k : ℕ) (y : A) → slice_get ys k ≡ Some y → slice_get (xs ++ ys) (length xs + k) ≡ Some y
  get-right [] ys k y e = (let same : 0 + k ≡ k = omega arith in rw same e)
  get-right (x ∷ xs) ys k y e =
      let same : suc (length xs) + k ≡ suc (length xs + k) = omega arith in rw same (get-right xs ys k y e)

  get-there : (xs : List A) (k : ℕ) → k < length xs → (x : A) × (slice_get xs k ≡ Some x)
  get-there [] k lt = absurd (omega (arith, lt))
  get-there (x ∷ xs) zero lt = (x, refl)
  get-there (x ∷ xs) (suc k) lt = get-there xs k (omega (arith, lt))

  get-within : (xs : List A) (k : ℕ) (x : A) → slice_get xs k ≡ Some x → k < length xs
  get-within [] k x e = absurd (cc e)
  get-within (y ∷ xs) zero x e = omega arith
  get-within (y ∷ xs) (suc k) x e = (let lt = get-within xs k x e in omega (arith, lt))

module _ {A : Type 0} where
  -- the positions, counted from a number, of what passes
  position-there : (p : A → Bool) (m : ℕ) (xs : List A) (k : ℕ) → Contains (positions_from m p xs) k
      → (i : ℕ) × (x : A) × (k ≡ m + i) × (slice_get xs i ≡ Some x) × (p x ≡ true)
  position-there p m [] k h = absurd (in-none k h)
  position-there p m (x ∷ xs) k h = by (λ g. position-there p (suc m) xs k g) (p x) refl h
    where
      later : (Contains (positions_from (suc m) p xs) k
          → (i : ℕ) × (y : A) × (k ≡ suc m + i) × (slice_get xs i ≡ Some y) × (p y ≡ true))
          → Contains (positions_from (suc m) p xs) k
          → (i : ℕ) × (y : A) × (k ≡ m + i) × (slice_get (x ∷ xs) i ≡ Some y) × (p y ≡ true)
      later again g = (let r = again g in (suc r.0, r.1, (let e = r.2 in omega (arith, e)), r.3, r.4))

      by : (Contains (positions_from (suc m) p xs) k
          → (i : ℕ) × (y : A) × (k ≡ suc m + i) × (slice_get xs i ≡ Some y) × (p y ≡ true)) → (b : Bool) → p x ≡ b
          → Contains (cond b (m ∷ positions_from (suc m) p xs) (positions_from (suc m) p xs)) k
          → (i : ℕ) × (y : A) × (k ≡ m + i) × (slice_get (x ∷ xs) i ≡ Some y) × (p y ≡ true)
      by again true e g = elim (in-either k m (positions_from (suc m) p xs) g) [
        | inl same ↦ (0, x, omega (arith, same), refl, e)
        | inr rest ↦ later again rest
      ]
      by again false e g = later again g

  position-of : (p : A → Bool) (m : ℕ) (xs : List A) (i : ℕ) (x : A) → slice_get xs i ≡ Some x → p x ≡ true
      → Contains (positions_from m p xs) (m + i)
  position-of p m [] i x e t = absurd (cc e)
  position-of p m (y ∷ xs) zero x e t =
      let same : y ≡ x = cc e in
      let yes : p y ≡ true = ap p same ∙ t in
      let none : m + 0 ≡ m = omega arith in
      rw (none, yes) (in-first m (positions_from (suc m) p xs))
  position-of p m (y ∷ xs) (suc i) x e t =
      let next : m + suc i ≡ suc m + i = omega arith in
      let rest = position-of p (suc m) xs i x e t in
      rw next (by (p y) rest)
    where
      by : (b : Bool) → Contains (positions_from (suc m) p xs) (suc m + i)
          → Contains (cond b (m ∷ positions_from (suc m) p xs) (positions_from (suc m) p xs)) (suc m + i)
      by true h = in-later (suc m + i) m (positions_from (suc m) p xs) h
      by false h = h

  any-of : (p : A → Bool) (xs : List A) (x : A) → Contains xs x → p x ≡ true → list_any p xs ≡ true
  any-of p [] x h t = absurd (in-none x h)
  any-of p (y ∷ xs) x h t = elim (in-either x y xs h) [
    | inl same ↦ (let yes : p y ≡ true = ap p same ∙ t in rw yes refl)
    | inr rest ↦ or-true (p y) (list_any p xs) (any-of p xs x rest t)
  ]
    where
      or-true : (a b : Bool) → b ≡ true → (a || b) ≡ true
      or-true true b e = refl
      or-true false b e = e

  of-any : (p : A → Bool) (xs : List A) → list_any p xs ≡ true → (x : A) × Contains xs x × (p x ≡ true)
  of-any p [] e = absurd (cc e)
  of-any p (y ∷ xs) e = by (λ f. of-any p xs f) (p y) refl e
    where
      by : (list_any p xs ≡ true → (x : A) × Contains xs x × (p x ≡ true)) → (b : Bool) → p y ≡ b
          → (b || list_any p xs) ≡ true → (x : A) × Contains (y ∷ xs) x × (p x ≡ true)
      by again true t f = (y, in-first y xs, t)
      by again false t f = (let r = again f in (r.0, in-later r.0 y xs r.1, r.2))

-- the numbers of names among words
module _ (lists : Lists) (first : ℕ) where
  number-word : (words : List (List ℕ)) (m : ℕ) → Contains (word_numbers lists first words) m
      → (word : List ℕ) × (id : ℕ) × Contains words word × (find_in lists word ≡ Some id) × (m ≡ first + id)
  number-word [] m h = absurd (in-none m h)
  number-word (word ∷ words) m h =
      by (λ g. (let r = number-word words m g in (r.0, r.1, in-later r.0 word words r.2, r.3, r.4)))
      (find_in lists word) refl h
    where
      by : (Contains (word_numbers lists first words) m → (w : List ℕ) × (id : ℕ) × Contains (word ∷ words) w
          × (find_in lists w ≡ Some id) × (m ≡ first + id)) → (o : Option ℕ) → find_in lists word ≡ o
          → Contains (cons_option (option_map (λ id. first + id) o) (word_numbers lists first words)) m
          → (w : List ℕ) × (id : ℕ) × Contains (word ∷ words) w × (find_in lists w ≡ Some id) × (m ≡ first + id)
      by later None e g = later g
      by later (Some id) e g = elim (in-either m (first + id) (word_numbers lists first words) g) [
        | inl same ↦ (word, id, in-first word words, e, sym same)
        | inr rest ↦ later rest
      ]

  word-number : (words : List (List ℕ)) (word : List ℕ) (id : ℕ) → Contains words word → find_in lists word ≡ Some id
      → Contains (word_numbers lists first words) (first + id)
  word-number [] word id h e = absurd (in-none word h)
  word-number (w ∷ words) word id h e = elim (in-either word w words h) [
    | inl same ↦
        let here : find_in lists w ≡ Some id = ap (find_in lists) same ∙ e in
        rw here (in-first (first + id) (word_numbers lists first words))
    | inr rest ↦ by (find_in lists w) (word-number words word id rest e)
  ]
    where
      by : (o : Option ℕ) → Contains (word_numbers lists first words) (first + id)
          → Contains (cons_option (option_map (λ k. first + k) o) (word_numbers lists first words)) (first + id)
      by None g = g
      by (Some k) g = in-later (first + id) (first + k) (word_numbers lists first words) g

module _ (rules : List SketchedRule) (lists : Lists) (by_name : AreNumbersByName rules lists) where
  abbrev needs : List Demand
  needs = all_demands lists rules

  abbrev decided : SketchedRule → Bool
  decided rule = rule.is_marked || list_any is_core rule.uses

  rule-need : (k : ℕ) (rule : SketchedRule) → slice_get rules k ≡ Some rule
      → slice_get needs k ≡ Some (rule_demand lists (length rules) rule)
  rule-need k rule e = get-left (rule_demand lists (length rules)) rules (name_demands lists) k rule e

  -- the list of a name
  name-body : (name : List ℕ) (id : ℕ) → find_in lists name ≡ Some id
      → (body : Vec ℕ Global) × (slice_get needs (length rules + id) ≡ Some (One body.items))
      × (body.items ≡ positions_from 0 (goes_by name) rules)
  name-body name id e =
      let low = found-within (λ row. same_name lists.names name row.name) lists.rules id e in
      let got = get-there (bodies_of lists) id (omega (arith, length-map lists.rules (λ row. row.body), low)) in
      let body = got.0 in
      let named = get-left (λ (b : Vec ℕ Global). One b.items) (bodies_of lists) [] id body got.1 in
      let size = length-map rules (rule_demand lists (length rules)) in (
        body,
        ap (λ (n : ℕ). slice_get needs (n + id)) (sym size)
            ∙ get-right (map (rule_demand lists (length rules)) rules) (name_demands lists) id (One body.items)
            (name-need id body got.1),
        sym (listed-found lists name id body e got.1) ∙ by_name.1 name,
      )
    where
      name-need : (id : ℕ) (body : Vec ℕ Global) → slice_get (bodies_of lists) id ≡ Some body
          → slice_get (name_demands lists) id ≡ Some (One body.items)
      name-need id body e =
          let named = get-left (λ (b : Vec ℕ Global). One b.items) (bodies_of lists) [] id body e in
          let same : map (λ (b : Vec ℕ Global). One b.items) (bodies_of lists) ++ [] ≡ name_demands lists =
          append-nil _ in
          subst (λ (ds : List Demand). slice_get ds id ≡ Some (One body.items)) same named

  decided-grounded : (rule : SketchedRule) → decided rule ≡ true → IsRuleGrounded rules rule
  decided-grounded rule e = by rule.is_marked refl e
    where
      by : (b : Bool) → rule.is_marked ≡ b → (b || list_any is_core rule.uses) ≡ true → IsRuleGrounded rules rule
      by true m t = inl m
      by false m t = (let r = of-any is_core rule.uses t in inr (r.0, r.1, of_core r.2))

  all-decided : (rule : SketchedRule) (row : List ℕ) → rule_demand lists (length rules) rule ≡ All row
      → decided rule ≡ true
  all-decided rule row e = by (decided rule) e
    where
      by : (b : Bool) → cond b (All []) (One (word_numbers lists (length rules) rule.uses)) ≡ All row → b ≡ true
      by true f = refl
      by false f = absurd (cc f)

  one-row : (rule : SketchedRule) (row : List ℕ) → rule_demand lists (length rules) rule ≡ One row
      → row ≡ word_numbers lists (length rules) rule.uses
  one-row rule row e = by (decided rule) e
    where
      by : (b : Bool) → cond b (All []) (One (word_numbers lists (length rules) rule.uses)) ≡ One row
          → row ≡ word_numbers lists (length rules) rule.uses
      by true f = absurd (cc f)
      by false f = cc f

  record Good (k : ℕ) : Type 0 where
    rule : (rule : SketchedRule) → slice_get rules k ≡ Some rule → IsRuleGrounded rules rule
    name : (name : List ℕ) (id : ℕ) → k ≡ length rules + id → find_in lists name ≡ Some id → IsGrounded rules name

  comes-good : {k : ℕ} → Comes needs k → Good k
  comes-good {k} (by_all {row = row} at f) = record {
    rule = λ r e. decided-grounded r (all-decided r row
        (let same : Some (rule_demand lists (length rules) r) ≡ Some (All row) = sym (rule-need k r e) ∙ at in
        cc same));
    name = λ name id e found.
        let body = name-body name id found in
        let same : Some (One body.0.items) ≡ Some (All row) =
        sym body.1 ∙ ap (λ (n : ℕ). slice_get needs n) (sym e) ∙ at in
        absurd (cc same);
  }
  comes-good {k} (by_one {m = m} {row = row} at has comes) =
      let good = comes-good comes in
      record {
        rule = λ r e.
            let same : Some (rule_demand lists (length rules) r) ≡ Some (One row) = sym (rule-need k r e) ∙ at in
            let is = one-row r row (cc same) in
            let w = number-word lists (length rules) r.uses m (subst (λ (ns : List ℕ). Contains ns m) is has) in
            inr (w.0, w.2, good.name w.0 w.1 w.4 w.3);
        name = λ name id e found.
            let body = name-body name id found in
            let same : Some (One body.0.items) ≡ Some (One row) =
            sym body.1 ∙ ap (λ (n : ℕ). slice_get needs n) (sym e) ∙ at in
            let rows : row ≡ positions_from 0 (goes_by name) rules =
            (let items : row ≡ body.0.items = cc same in items ∙ body.2) in
            let r = position-there (goes_by name) 0 rules m (subst (λ (ns : List ℕ). Contains ns m) rows has) in
            let there : slice_get rules m ≡ Some r.1 =
            ap (λ (n : ℕ). slice_get rules n) (let e = r.2 in omega (arith, e)) ∙ r.3 in
            by name m r.1 there r.4 (good.rule r.1 there);
      }
    where
      by : (name : List ℕ) (m : ℕ) (rule : SketchedRule) → slice_get rules m ≡ Some rule → goes_by name rule ≡ true
          → IsRuleGrounded rules rule → IsGrounded rules name
      by name m rule there named (inl marked) = by_mark m rule there named marked
      by name m rule there named (inr w) = by_word w.0 m rule there named w.1 w.2

  -- a rule with such a word comes, and so does a name that such a rule has
  abbrev Reaches : List ℕ → Type 0
  Reaches name = (is_core name ≡ true) ⊎ ((id : ℕ) × (find_in lists name ≡ Some id) × Comes needs (length rules + id))

  decided-comes : (k : ℕ) (rule : SketchedRule) → slice_get rules k ≡ Some rule → decided rule ≡ true → Comes needs k
  decided-comes k rule e t =
      let is : rule_demand lists (length rules) rule ≡ All [] = rw t refl in
      by_all (rule-need k rule e ∙ ap Some is) (λ m h. absurd (in-none m h))

  word-comes : (k : ℕ) (rule : SketchedRule) (word : List ℕ) → slice_get rules k ≡ Some rule → Contains rule.uses word
      → Reaches word → Comes needs k
  word-comes k rule word e has reaches = elim (cases_Bool (decided rule)) [
    | inl t ↦ decided-comes k rule e t
    | inr f ↦ by f reaches
  ]
    where
      or-right : (a b : Bool) → b ≡ true → (a || b) ≡ true
      or-right true b e = refl
      or-right false b e = e

      by : decided rule ≡ false → Reaches word → Comes needs k
      by f (inl core) =
          let yes : decided rule ≡ true =
          or-right rule.is_marked (list_any is_core rule.uses) (any-of is_core rule.uses word has core) in
          decided-comes k rule e yes
      by f (inr r) =
          let is : rule_demand lists (length rules) rule ≡ One (word_numbers lists (length rules) rule.uses) =
          rw f refl in
          by_one (rule-need k rule e ∙ ap Some is) (word-number lists (length rules) rule.uses word r.0 has r.1) r.2

  name-comes : (k : ℕ) (rule : SketchedRule) (name : List ℕ) → slice_get rules k ≡ Some rule
      → goes_by name rule ≡ true → Comes needs k → Reaches name
  name-comes k rule name e named comes = by (find_in lists name) refl
    where
      at : Contains (positions_from 0 (goes_by name) rules) k
      at = (let zero_more : 0 + k ≡ k = omega arith in
          subst (λ (n : ℕ). Contains (positions_from 0 (goes_by name) rules) n) zero_more
          (position-of (goes_by name) 0 rules k rule e named))

      by : (o : Option ℕ) → find_in lists name ≡ o → Reaches name
      by None none =
          let empty : positions_from 0 (goes_by name) rules ≡ [] =
          sym (by_name.1 name) ∙ listed-nowhere lists name none in
          absurd (in-none k (subst (λ (ns : List ℕ). Contains ns k) empty at))
      by (Some id) found =
          let body = name-body name id found in
          inr (id, found, by_one body.1 (subst (λ (ns : List ℕ). Contains ns k) (sym body.2) at) comes)

  grounded-comes : {name : List ℕ} → IsGrounded rules name → Reaches name
  grounded-comes (of_core e) = inl e
  grounded-comes {name} (by_mark k rule at named marked) =
      name-comes k rule name at named (decided-comes k rule at (rw marked refl))
  grounded-comes {name} (by_word word k rule at named has g) =
      name-comes k rule name at named (word-comes k rule word at has (grounded-comes g))

  rule-comes : (k : ℕ) (rule : SketchedRule) → slice_get rules k ≡ Some rule → IsRuleGrounded rules rule
      → Comes needs k
  rule-comes k rule e (inl marked) = decided-comes k rule e (rw marked refl)
  rule-comes k rule e (inr w) = word-comes k rule w.0 e w.1 (grounded-comes w.2)

  pub marks-grounded : (marks : List Bool) → AreMarksOfThose needs marks → AreGroundedMarks rules marks
  marks-grounded marks are = record {
    grounded = λ k rule e. (
      λ marked. (comes-good ((are k).0 marked)).rule rule e,
      λ grounded. (are k).1 (rule-comes k rule e grounded),
    );
  }

-- what needs name has needs
module _ (rules : List SketchedRule) (lists : Lists) (by_name : AreNumbersByName rules lists) where
  size-all : length (all_demands lists rules) ≡ length rules + length lists.rules
  size-all =
      length-append (map (rule_demand lists (length rules)) rules) (name_demands lists)
      ∙ (let a = length-map rules (rule_demand lists (length rules)) in
      let b = length-map (bodies_of lists) (λ (body : Vec ℕ Global). One body.items) in
      let d = length-map lists.rules (λ row. row.body) in
      omega (arith, a, b, d))

  get-either : {A B : Type 0} (f : A → B) (xs : List A) (ys : List B) (k : ℕ) (y : B)
      → slice_get (map f xs ++ ys) k ≡ Some y
      → ((x : A) × (slice_get xs k ≡ Some x) × (f x ≡ y)) ⊎ Contains ys y
  get-either f [] ys k y e = inr (k, get-within ys k y e, at-get ys k y e)
    where
      at-get : {B : Type 0} (ys : List B) (k : ℕ) (y : B) → slice_get ys k ≡ Some y → slice_index_or ys k y ≡ y
      at-get [] k y e = absurd (cc e)
      at-get (z ∷ ys) zero y e = cc e
      at-get (z ∷ ys) (suc k) y e = at-get ys k y e
  get-either f (x ∷ xs) ys zero y e = inl (x, refl, cc e)
  get-either f (x ∷ xs) ys (suc k) y e = get-either f xs ys k y e

  row-within : (rule : SketchedRule) (m : ℕ) → Contains (row_of (rule_demand lists (length rules) rule)) m
      → m < length rules + length lists.rules
  row-within rule m h = by (rule.is_marked || list_any is_core rule.uses) h
    where
      by : (b : Bool) → Contains (row_of (cond b (All []) (One (word_numbers lists (length rules) rule.uses)))) m
          → m < length rules + length lists.rules
      by true g = absurd (in-none m g)
      by false g =
          let w = number-word lists (length rules) rule.uses m g in
          let low = found-within (λ row. same_name lists.names w.0 row.name) lists.rules w.1 w.3 in
          let e = w.4 in
          omega (arith, e, low)

  list-within : (unique : HasUniqueNames lists) (d : Demand) (m : ℕ) → Contains (name_demands lists) d
      → Contains (row_of d) m → m < length rules + length lists.rules
  list-within unique d m has h =
      let k = has.0 in
      let got = get-there lists.rules k (let low = has.1 in
      let a = length-map (bodies_of lists) (λ (body : Vec ℕ Global). One body.items) in
      let b = length-map lists.rules (λ row. row.body) in
      omega (arith, low, a, b)) in
      let row = got.0 in
      let found = unique.own k row got.1 in
      let body = get-left-body k row got.1 in
      let list = sym (listed-found lists row.name k row.body found body) ∙ by_name.1 row.name in
      let is : d ≡ One row.body.items = demand-at k row got.1 has.2 in
      let at : Contains row.body.items m = subst (λ (e : Demand). Contains (row_of e) m) is h in
      let r = position-there (goes_by row.name) 0 rules m (subst (λ (ns : List ℕ). Contains ns m) list at) in
      let low = get-within rules r.0 r.1 r.3 in
      let e = r.2 in
      omega (arith, e, low)
    where
      index-is : {B : Type 0} (ys : List B) (k : ℕ) (d y : B) → slice_get ys k ≡ Some y → slice_index_or ys k d ≡ y
      index-is [] k d y e = absurd (cc e)
      index-is (z ∷ ys) zero d y e = cc e
      index-is (z ∷ ys) (suc k) d y e = index-is ys k d y e

      get-left-body : (k : ℕ) (row : Rule (Vec ℕ Global)) → slice_get lists.rules k ≡ Some row
          → slice_get (bodies_of lists) k ≡ Some row.body
      get-left-body k row e =
          subst (λ (bs : List (Vec ℕ Global)). slice_get bs k ≡ Some row.body) (append-nil (bodies_of lists))
          (get-left (λ (r : Rule (Vec ℕ Global)). r.body) lists.rules [] k row e)

      demand-at : (k : ℕ) (row : Rule (Vec ℕ Global)) → slice_get lists.rules k ≡ Some row
          → slice_index_or (name_demands lists) k d ≡ d → d ≡ One row.body.items
      demand-at k row e at =
          let there = subst (λ (ds : List Demand). slice_get ds k ≡ Some (One row.body.items))
          (append-nil (name_demands lists))
          (get-left (λ (b : Vec ℕ Global). One b.items) (bodies_of lists) [] k row.body (get-left-body k row e)) in
          sym at ∙ index-is (name_demands lists) k d (One row.body.items) there

  pub needs-within : HasUniqueNames lists → AreNeedsWithin (all_demands lists rules)
  needs-within unique = record {
    within = λ n m need at has.
        let size = size-all in
        let low : m < length rules + length lists.rules = elim
        (get-either (rule_demand lists (length rules)) rules (name_demands lists) n need at) [
          | inl r ↦ row-within r.0 m (subst (λ (d : Demand). Contains (row_of d) m) (sym r.2) has)
          | inr there ↦ list-within unique need m there has
        ] in
        omega (arith, size, low);
  }

pub positions-map : {A B : Type 0} (p : B → Bool) (f : A → B) (n : ℕ) (xs : List A)
    → positions_from n (λ x. p (f x)) xs ≡ positions_from n p (map f xs)
positions-map p f n [] = refl
positions-map p f n (x ∷ xs) = by (p (f x)) (positions-map p f (suc n) xs)
  where
    by : (b : Bool) → positions_from (suc n) (λ y. p (f y)) xs ≡ positions_from (suc n) p (map f xs)
        → cond b (n ∷ positions_from (suc n) (λ y. p (f y)) xs) (positions_from (suc n) (λ y. p (f y)) xs)
        ≡ cond b (n ∷ positions_from (suc n) p (map f xs)) (positions_from (suc n) p (map f xs))
    by true e = ap (λ (ns : List ℕ). n ∷ ns) e
    by false e = e

-- a core rule is found among those that a table of them has
pub core-found : (core : Rules Elem) (name : List ℕ) (o : Option ℕ) → IsCoreTable core → o ≡ find_in core name
    → is_some o ≡ is_core name
core-found core name o is e =
    known-any core name core_names o is.names
    (names-mapped core.rules ∙ ap (λ (rs : List element.Rule). map (λ rule. rule.name) rs) is.listed) e
  where
    names-mapped : (rs : List (Rule Elem)) → map (λ rule. rule.name) rs ≡ map (λ rule. rule.name) (map rule_of rs)
    names-mapped [] = refl
    names-mapped (r ∷ rs) = ap (λ (ns : List (List ℕ)). r.name ∷ ns) (names-mapped rs)

abbrev pub bytes_of : Vec ℕ Global → List ℕ
bytes_of word = word.items

-- one word more
module _ (words : List (Vec ℕ Global)) (i : ℕ) (d : Vec ℕ Global) (lt : i < length words) where
  pub core-none : list_any (λ word. is_core word.items) (take i words) ≡ false → d ≡ get_or words i d
      → is_core d.items ≡ false → list_any (λ word. is_core word.items) (take (i + 1) words) ≡ false
  core-none so_far is apart =
      let here : is_core (get_or words i d).items ≡ false =
      ap (λ (w : Vec ℕ Global). is_core w.items) (sym is) ∙ apart in
      list_any_more (λ (word : Vec ℕ Global). is_core word.items) words i d lt ∙ (rw (so_far, here) refl)

  pub core-there : d ≡ get_or words i d → is_core d.items ≡ true
      → true ≡ list_any is_core (map bytes_of words)
  core-there is same =
      let here : is_core (get_or words i d).items ≡ true = ap (λ (w : Vec ℕ Global). is_core w.items) (sym is) ∙ same in
      sym (list_any_at (λ (word : Vec ℕ Global). is_core word.items) words i d lt here) ∙ any-map is_core bytes_of words

  pub numbers-more : (lists : Lists) (first : ℕ) → d ≡ get_or words i d
      → word_numbers lists first (map bytes_of (take (i + 1) words))
      ≡ word_numbers lists first (map bytes_of (take i words))
      ++ cons_option (option_map (λ id. first + id) (find_in lists d.items)) []
  numbers-more lists first is =
      ap (word_numbers lists first) (ap (map bytes_of) (take_more words i d lt)
      ∙ map-append bytes_of (take i words) (get_or words i d ∷ []))
      ∙ filter_map-append (λ word. option_map (λ id. first + id) (find_in lists word)) (map bytes_of (take i words))
      (bytes_of (get_or words i d) ∷ [])
      ∙ ap (λ (w : Vec ℕ Global). word_numbers lists first (map bytes_of (take i words))
      ++ cons_option (option_map (λ id. first + id) (find_in lists w.items)) []) (sym is)

pub core-all : (words : List (Vec ℕ Global)) (i : ℕ) → length words ≤ i
    → list_any (λ word. is_core word.items) (take i words) ≡ false → false ≡ list_any is_core (map bytes_of words)
core-all words i le e =
    sym (ap (λ (ws : List (Vec ℕ Global)). list_any (λ word. is_core word.items) ws) (sym (take_all i words le)) ∙ e)
    ∙ any-map is_core bytes_of words

pub demand-marked : (lists : Lists) (first : ℕ) (rule : SketchedRule) → rule.is_marked ≡ true
    → All [] ≡ rule_demand lists first rule
demand-marked lists first rule e = rw e refl

pub demand-core : (lists : Lists) (first : ℕ) (rule : SketchedRule) → list_any is_core rule.uses ≡ true
    → All [] ≡ rule_demand lists first rule
demand-core lists first rule e = by rule.is_marked (list_any is_core rule.uses) e
  where
    by : (a b : Bool) → b ≡ true → All [] ≡ cond (a || b) (All []) (One (word_numbers lists first rule.uses))
    by true b t = refl
    by false b t = rw t refl

pub demand-one : (lists : Lists) (first : ℕ) (rule : SketchedRule) (row : List ℕ) → rule.is_marked ≡ false
    → list_any is_core rule.uses ≡ false → row ≡ word_numbers lists first rule.uses
    → One row ≡ rule_demand lists first rule
demand-one lists first rule row e f is = rw (e, f, is) refl

pub take-got : {A : Type 0} (xs : List A) (i : ℕ) (x : A) → slice_get xs i ≡ Some x
    → take (i + 1) xs ≡ take i xs ++ x ∷ []
take-got xs i x e =
    take_more xs i x (get-within xs i x e)
    ∙ ap (λ (y : _). take i xs ++ y ∷ []) (get_or_from_slice_get xs i x x e)
