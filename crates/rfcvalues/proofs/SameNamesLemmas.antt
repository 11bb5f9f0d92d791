-- Rules of the same name, and names that a table has.
-- Serves: are_values, is_no_abnf
use Rattle.std.proofs.Common.{◌≡◌, ℕ, ◌+◌, ◌<◌, ◌||◌, ◌&&◌, Bool, true, false, List, [], ◌∷◌, ◌++◌, length, take}
use Rattle.std.proofs.Common.{drop, map}
use Rattle.std.proofs.Common.{Option, None, Some, ap, ◌∙◌, arith, get_or, inl, inr, position, refl, sym, suc, ◌≤◌, cond}
use Rattle.std.proofs.Common.{nat_lt, not}
use Rattle.std.specs.Option.{is_some}
use Rattle.std.specs.List.{list_any, position_or_len}
use Rattle.std.proofs.lemmas.Bool.Decides.{nat_tests}
use Rattle.std.proofs.lemmas.Bool.{cases_Bool}
use Rattle.std.proofs.lemmas.List.{length-map, map-append, take-append-drop, take_all, take_more}
use Rattle.std.proofs.lemmas.List.Folds.{list_any-append}
use Rattle.ruletable.specs.Rules.{Defines, Rule, Rules, find_in, names_of, same_name}
use Rattle.ruletable.specs.declared.table.Defined.{Defined}
use Rattle.ruletable.specs.declared.table.Defined.TheVariants.{Added, Duplicate}
use Rattle.ruletable.specs.declared.table.NameCase.{NameCase}
use Rattle.ruletable.specs.declared.table.NameCase.TheVariants.{Fold}
use Rattle.rfcvalues.specs.AssignedValues.{has_same_names, goes_by, is_no_abnf, is_test_vector}
use Rattle.rfcvalues.specs.RuleSketches.{SketchedRule, rule_sketched}
use Rattle.rfcvalues.specs.declared.sketch.RuleSketch.{RuleSketch}
use Rattle.rfcvalues.proofs.RuleSketchLemmas.{any-map}

or-swap : (a b c d : Bool) → ((a || (b || false)) || (c || d)) ≡ ((a || c) || (b || d))
or-swap true b c d = refl
or-swap false true true d = refl
or-swap false true false d = refl
or-swap false false c d = refl

-- one rule more
pub same-snoc : (xs : List SketchedRule) (x : SketchedRule)
    → has_same_names (xs ++ x ∷ []) ≡ (has_same_names xs || list_any (λ y. goes_by x.name y) xs)
same-snoc [] x = refl
same-snoc (y ∷ xs) x =
    ap (λ (b : Bool). b || has_same_names (xs ++ x ∷ [])) (list_any-append (λ o. goes_by o.name y) xs (x ∷ []))
    ∙ ap (λ (b : Bool). (list_any (λ o. goes_by o.name y) xs || (goes_by x.name y || false)) || b) (same-snoc xs x)
    ∙ or-swap (list_any (λ o. goes_by o.name y) xs) (goes_by x.name y) (has_same_names xs)
    (list_any (λ z. goes_by x.name z) xs)

or-right : (a b : Bool) → b ≡ true → (a || b) ≡ true
or-right true b e = refl
or-right false b e = e

-- two of the first ones are two of all
pub same-longer : (xs ys : List SketchedRule) → has_same_names xs ≡ true → has_same_names (xs ++ ys) ≡ true
same-longer [] ys e = absurd (cc e)
same-longer (x ∷ xs) ys e = elim (cases_Bool (list_any (λ o. goes_by o.name x) xs)) [
  | inl a ↦
      let here : list_any (λ o. goes_by o.name x) (xs ++ ys) ≡ true =
      list_any-append (λ o. goes_by o.name x) xs ys ∙ ap (λ (b : Bool). b || list_any (λ o. goes_by o.name x) ys) a in
      rw here refl
  | inr a ↦
      let rest : has_same_names xs ≡ true = rw a at e in
      or-right (list_any (λ o. goes_by o.name x) (xs ++ ys)) (has_same_names (xs ++ ys)) (same-longer xs ys rest)
]

-- a position is found where some element passes
pub some-position : {A : Type 0} (p : A → Bool) (xs : List A) → is_some (position p xs) ≡ list_any p xs
some-position {A} p xs = there (nat_lt (position_or_len p xs) (length xs)) (position_or_len p xs) ∙ below xs
  where
    there : (b : Bool) (k : ℕ) → is_some (cond b (Some k) None) ≡ b
    there true k = refl
    there false k = refl

    step : (b c : Bool) (k n : ℕ) → nat_lt k n ≡ c → nat_lt (cond (not b) (1 + k) 0) (suc n) ≡ (b || c)
    step true c k n h = grind (arith, nat_tests)
    step false true k n h = grind (arith, nat_tests)
    step false false k n h = grind (arith, nat_tests)

    below : (xs : List A) → nat_lt (position_or_len p xs) (length xs) ≡ list_any p xs
    below [] = refl
    below (x ∷ xs) = step (p x) (list_any p xs) (position_or_len p xs) (length xs) (below xs)

pub none-found : (o : Option ℕ) → is_some o ≡ false → o ≡ None
none-found None e = refl
none-found (Some n) e = absurd (cc e)

-- a table has a name among those that it has
pub known-any : {E : Type 0} (table : Rules E) (name : List ℕ) (seen : List (List ℕ)) (o : Option ℕ)
    → table.names ≡ Fold → names_of table ≡ seen → o ≡ find_in table name
    → is_some o ≡ list_any (same_name Fold name) seen
known-any table name seen o folds is e =
    ap is_some (e ∙ ap (λ (c : NameCase). position (λ rule. same_name c name rule.name) table.rules) folds)
    ∙ some-position (λ rule. same_name Fold name rule.name) table.rules
    ∙ any-map (same_name Fold name) (λ rule. rule.name) table.rules ∙ ap (list_any (same_name Fold name)) is

-- a new name is one more
pub names-defined : {E : Type 0} (old new : Rules E) (rule : Rule E) (o : Defined) → Defines old new rule o
    → find_in old rule.name ≡ None → (new.names ≡ old.names) × (names_of new ≡ names_of old ++ rule.name ∷ [])
names-defined {E} old new rule (Added id) d none = (
  ap (λ (t : Rules E). t.names) d.2,
  ap (λ (t : Rules E). names_of t) d.2 ∙ map-append (λ r. r.name) old.rules (rule ∷ []),
)
names-defined old new rule (Duplicate id) d none = absurd (cc (d.0, none))

seen-any : (name : List ℕ) (rules : List RuleSketch)
    → list_any (same_name Fold name) (map (λ rule. rule.name.items) rules)
    ≡ list_any (λ y. goes_by name y) (map rule_sketched rules)
seen-any name [] = refl
seen-any name (rule ∷ rules) = ap (λ (b : Bool). same_name Fold name rule.name.items || b) (seen-any name rules)

module _ (rules : List RuleSketch) (i : ℕ) (d : RuleSketch) (lt : i < length rules) where
  pub next-rule : map rule_sketched (take (i + 1) rules)
      ≡ map rule_sketched (take i rules) ++ rule_sketched (get_or rules i d) ∷ []
  next-rule = ap (map rule_sketched) (take_more rules i d lt)
      ∙ map-append rule_sketched (take i rules) (get_or rules i d ∷ [])

  pub next-name : map (λ (rule : RuleSketch). rule.name.items) (take (i + 1) rules)
      ≡ map (λ (rule : RuleSketch). rule.name.items) (take i rules) ++ (get_or rules i d).name.items ∷ []
  next-name = ap (map (λ (rule : RuleSketch). rule.name.items)) (take_more rules i d lt)
      ∙ map-append (λ (rule : RuleSketch). rule.name.items) (take i rules) (get_or rules i d ∷ [])

  -- what the table says of the next rule's name
  pub next-same : (b : Bool)
      → b ≡ list_any (same_name Fold (get_or rules i d).name.items) (map (λ rule. rule.name.items) (take i rules))
      → has_same_names (map rule_sketched (take i rules)) ≡ false
      → has_same_names (map rule_sketched (take (i + 1) rules)) ≡ b
  next-same b e apart =
      ap has_same_names next-rule
      ∙ same-snoc (map rule_sketched (take i rules)) (rule_sketched (get_or rules i d))
      ∙ ap (λ (c : Bool). c || list_any (λ y. goes_by (get_or rules i d).name.items y)
      (map rule_sketched (take i rules))) apart
      ∙ sym (e ∙ seen-any (get_or rules i d).name.items (take i rules))

pub same-first : (rules : List RuleSketch) (i : ℕ) → has_same_names (map rule_sketched (take i rules)) ≡ true
    → true ≡ has_same_names (map rule_sketched rules)
same-first rules i e =
    sym (ap (λ (rs : List RuleSketch). has_same_names (map rule_sketched rs)) (sym (take-append-drop i rules))
    ∙ ap has_same_names (map-append rule_sketched (take i rules) (drop i rules))
    ∙ same-longer (map rule_sketched (take i rules)) (map rule_sketched (drop i rules)) e)

pub same-none : (rules : List RuleSketch) (i : ℕ) → length rules ≤ i
    → has_same_names (map rule_sketched (take i rules)) ≡ false → false ≡ has_same_names (map rule_sketched rules)
same-none rules i le e =
    sym (ap (λ (rs : List RuleSketch). has_same_names (map rule_sketched rs)) (sym (take_all i rules le)) ∙ e)

-- values one after another that are no ABNF
module _ (run : List RuleSketch) where
  statement-is : (b : Bool) → b ≡ list_any (λ rule. rule.is_statement) run
      → list_any (λ rule. rule.is_statement) (map rule_sketched run) ≡ b
  statement-is b e = sym (e ∙ any-map (λ rule. rule.is_statement) rule_sketched run)

  vector-is : (b : Bool) → b ≡ list_any (λ rule. is_test_vector (rule_sketched rule)) run
      → list_any is_test_vector (map rule_sketched run) ≡ b
  vector-is b e = sym (e ∙ any-map is_test_vector rule_sketched run)

  size-is : (b : Bool) → b ≡ nat_lt 1 (length run) → nat_lt 1 (length (map rule_sketched run)) ≡ b
  size-is b e = ap (λ (n : ℕ). nat_lt 1 n) (length-map run rule_sketched) ∙ sym e

  few-size : length run < 2 → false ≡ nat_lt 1 (length run)
  few-size h = grind (arith, nat_tests)

  many-size : 2 ≤ length run → true ≡ nat_lt 1 (length run)
  many-size h = grind (arith, nat_tests)

  pub by-statement : (b : Bool) → b ≡ list_any (λ rule. rule.is_statement) run → b ≡ true
      → true ≡ is_no_abnf (map rule_sketched run)
  by-statement b e t = (let yes = statement-is b e ∙ t in rw yes refl)

  pub too-few : (b : Bool) → b ≡ list_any (λ rule. rule.is_statement) run → b ≡ false → length run < 2
      → false ≡ is_no_abnf (map rule_sketched run)
  too-few b e f few =
      let none = statement-is b e ∙ f in
      let size = size-is false (few-size few) in
      rw (none, size) refl

  pub by-vector : (b c : Bool) → b ≡ list_any (λ rule. rule.is_statement) run → b ≡ false → 2 ≤ length run
      → c ≡ list_any (λ rule. is_test_vector (rule_sketched rule)) run → c ≡ true
      → true ≡ is_no_abnf (map rule_sketched run)
  by-vector b c e f many g t =
      let none = statement-is b e ∙ f in
      let size = size-is true (many-size many) in
      let yes = vector-is c g ∙ t in
      rw (none, size, yes) refl

  pub by-names : (b c : Bool) → b ≡ list_any (λ rule. rule.is_statement) run → b ≡ false → 2 ≤ length run
      → c ≡ list_any (λ rule. is_test_vector (rule_sketched rule)) run → c ≡ false
      → has_same_names (map rule_sketched run) ≡ is_no_abnf (map rule_sketched run)
  by-names b c e f many g t =
      let none = statement-is b e ∙ f in
      let size = size-is true (many-size many) in
      let no_vector = vector-is c g ∙ t in
      rw (none, size, no_vector) refl
