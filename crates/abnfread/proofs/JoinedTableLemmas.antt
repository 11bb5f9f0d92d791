-- The table of definitions, one definition more.
-- Serves: read_abnf
use Rattle.std.proofs.Common.{◌≡◌, ℕ, zero, suc, Bool, true, false, cond, Option, Some, None, List, [], ◌∷◌, ◌++◌}
use Rattle.std.proofs.Common.{length, map, position, get_or, refl, sym, ap, ◌∙◌, append_assoc, append-nil}
use Rattle.std.proofs.Common.{length-append, arith}
use Rattle.std.specs.Prelude.{slice_get, bytes_eq}
use Rattle.std.proofs.lemmas.Slice.Eq.{bytes_eq-Decides}
use Rattle.std.proofs.lemmas.List.{map-append, length-map}
use Rattle.std.proofs.lemmas.List.Quantifiers.{position-Some}
use Rattle.std.proofs.lemmas.Option.{get_or_from_slice_get}
use Rattle.ruletable.proofs.TableLemmas.{position-map}
use Rattle.ruletable.specs.Rules as table
use Rattle.ruletable.specs.Rules.{find_in, key_of, same_name, Defines, HasUniqueNames, set_body}
use Rattle.ruletable.specs.declared.table.NameCase.TheVariants.{Fold}
use Rattle.abnfread.specs.declared.elem.Elem.{Elem}
use Rattle.abnfread.specs.declared.definition.Definition.{Definition as CodeDefinition}
use Rattle.abnfread.specs.AbnfTable.{with_alternatives, id_in, begun, firsts, agains, is_early, earlies, IsTableOf}
use Rattle.abnfread.specs.AbnfTable.{IsExtended, grow_named, TakesDefinition}
use Rattle.abnfread.specs.AbnfTable.{grows, redefines, extends, begins}
use Rattle.abnfread.specs.CoreRules.{core_list}
use Rattle.abnfread.specs.Element.{Element, Rule, Definition, body_of}
use Rattle.abnfread.specs.AbnfViews.{definition_from, element_of, rule_of, rules_of}
use Rattle.abnfread.proofs.AbnfTableLemmas.{name_of, grow-names, take_all, take-all}
use Rattle.abnfread.proofs.CoreRuleLemmas.{found-in, some-one}

abbrev pub core : List ℕ → Option Element
core = body_of core_list

abbrev pub known : table.Rules Elem → List (List ℕ)
known rules = map name_of (rules_of rules)

-- a table and what is left make up the table of all definitions
pub record Goes (all : List Definition) (rules : table.Rules Elem) (redefined early : List ℕ)
    (left : List Definition) : Type 0 where
  pub names : rules.names ≡ Fold
  pub kept : take_all core (rules_of rules) left ≡ firsts core [] all
  pub again : redefined ++ agains core (known rules) left ≡ agains core [] all
  pub before : early ++ earlies core (length (rules_of rules)) (known rules) left ≡ earlies core 0 [] all

pub goes-first : (all : List Definition) (rules : table.Rules Elem) (redefined early : List ℕ) → rules.names ≡ Fold
    → rules.rules ≡ [] → redefined ≡ [] → early ≡ [] → Goes all rules redefined early all
goes-first all rules redefined early folds none a b =
    record {
      names = folds;
      kept = rw none (take-all core [] all);
      again = rw (none, a) refl;
      before = rw (none, b) refl;
    }

pub goes-last : (all : List Definition) (rules : table.Rules Elem) (redefined early : List ℕ)
    → Goes all rules redefined early [] → IsTableOf all rules redefined early
goes-last all rules redefined early g = record {
  names = g.names;
  kept = g.kept;
  again = sym (append-nil redefined) ∙ g.again;
  before = sym (append-nil early) ∙ g.before;
}

-- what each step does, by where the name is found
abbrev pub taken_by : List Rule → Definition → Option ℕ → Bool → List Rule
taken_by rules d o a = elim o [ None ↦ rules ++ begun core d ∷ [] | Some id ↦ cond a (map (grow_named d) rules) rules ]

abbrev pub agains_by : List (List ℕ) → Definition → List Definition → Option ℕ → Bool → List ℕ
agains_by names d ds o a = elim o [
  | None ↦ agains core (names ++ d.name ∷ []) ds
  | Some id ↦ cond a (agains core names ds) (id ∷ agains core names ds)
]

abbrev pub earlies_by : ℕ → List (List ℕ) → Definition → List Definition → Option ℕ → Bool → List ℕ
earlies_by n names d ds o b = elim o [
  | None ↦ cond b (n ∷ earlies core (suc n) (names ++ d.name ∷ []) ds) (earlies core (suc n) (names ++ d.name ∷ []) ds)
  | Some id ↦ earlies core n names ds
]

module _ (rules : table.Rules Elem) (d : Definition) (ds : List Definition) (folds : rules.names ≡ Fold) (o : Option ℕ)
    (a : Bool) (found : find_in rules d.name ≡ o) (adds : d.adds ≡ a) where
  known-id : id_in (known rules) d ≡ o
  known-id = position-map name_of (same_name Fold d.name) (rules_of rules) ∙ sym (found-in rules d.name folds) ∙ found

  take-by : take_all core (rules_of rules) (d ∷ ds) ≡ take_all core (taken_by (rules_of rules) d o a) ds
  take-by = ap (λ (x : Option ℕ). take_all core (taken_by (rules_of rules) d x d.adds) ds) known-id
      ∙ ap (λ (b : Bool). take_all core (taken_by (rules_of rules) d o b) ds) adds

  again-by : agains core (known rules) (d ∷ ds) ≡ agains_by (known rules) d ds o a
  again-by = ap (λ (x : Option ℕ). agains_by (known rules) d ds x d.adds) known-id
      ∙ ap (agains_by (known rules) d ds o) adds

  early-by : (n : ℕ) (b : Bool) → is_early core d ≡ b → earlies core n (known rules) (d ∷ ds)
      ≡ earlies_by n (known rules) d ds o b
  early-by n b e = ap (λ (x : Option ℕ). earlies_by n (known rules) d ds x (is_early core d)) known-id
      ∙ ap (earlies_by n (known rules) d ds o) e

module _ (all : List Definition) (rules : table.Rules Elem) (redefined early : List ℕ) (d : Definition)
    (ds : List Definition) (g : Goes all rules redefined early (d ∷ ds)) where
  -- a name that is defined again
  pub goes-again : (id : ℕ) → find_in rules d.name ≡ Some id → d.adds ≡ false
      → Goes all rules (redefined ++ id ∷ []) early ds
  goes-again id f e = record {
    names = g.names;
    kept = sym (take-by rules d ds g.names (Some id) false f e) ∙ g.kept;
    again = append_assoc redefined (id ∷ []) _ ∙ ap (λ (xs : List ℕ). redefined ++ xs)
        (sym (again-by rules d ds g.names (Some id) false f e)) ∙ g.again;
    before = ap (λ (xs : List ℕ). early ++ xs) (sym
        (early-by rules d ds g.names (Some id) false f e (length (rules_of rules)) (is_early core d) refl)) ∙ g.before;
  }

  -- alternatives that are added to a rule of the file
  pub goes-grown : (id : ℕ) (new : table.Rules Elem) → find_in rules d.name ≡ Some id → d.adds ≡ true
      → new.names ≡ rules.names → rules_of new ≡ map (grow_named d) (rules_of rules) → Goes all new redefined early ds
  goes-grown id new f e folds same =
      let names : known new ≡ known rules = ap (map name_of) same ∙ grow-names d (rules_of rules) in
      let size : length (rules_of new) ≡ length (rules_of rules) = ap length same
      ∙ length-map (rules_of rules) (grow_named d) in
      record {
        names = folds ∙ g.names;
        kept = ap (λ (rs : List Rule). take_all core rs ds) same ∙ sym (take-by rules d ds g.names (Some id) true f e)
            ∙ g.kept;
        again = ap (λ (ns : List (List ℕ)). redefined ++ agains core ns ds) names
            ∙ ap (λ (xs : List ℕ). redefined ++ xs) (sym (again-by rules d ds g.names (Some id) true f e)) ∙ g.again;
        before = ap (λ (ns : List (List ℕ)). early ++ earlies core (length (rules_of new)) ns ds) names
            ∙ ap (λ (n : ℕ). early ++ earlies core n (known rules) ds) size
            ∙ ap (λ (xs : List ℕ). early ++ xs) (sym (early-by rules d ds g.names (Some id) true f e
            (length (rules_of rules)) (is_early core d) refl)) ∙ g.before;
      }

  -- a new rule
  module _ (new : table.Rules Elem) (b : Bool) (is : is_early core d ≡ b) (f : find_in rules d.name ≡ None)
      (folds : new.names ≡ rules.names) (same : rules_of new ≡ rules_of rules ++ begun core d ∷ []) where
    new-names : known new ≡ known rules ++ d.name ∷ []
    new-names = ap (map name_of) same ∙ map-append name_of (rules_of rules) (begun core d ∷ [])

    new-size : length (rules_of new) ≡ suc (length (rules_of rules))
    new-size = let e = ap length same in omega (arith, e, length-append (rules_of rules) (begun core d ∷ []))

    pub goes-begun : (others : List ℕ) → others ++ earlies core (suc (length (rules_of rules)))
        (known rules ++ d.name ∷ []) ds ≡ early ++ earlies_by (length (rules_of rules)) (known rules) d ds None b
        → Goes all new redefined others ds
    goes-begun others e = record {
      names = folds ∙ g.names;
      kept = ap (λ (rs : List Rule). take_all core rs ds) same ∙ sym (take-by rules d ds g.names None d.adds f refl)
          ∙ g.kept;
      again = ap (λ (ns : List (List ℕ)). redefined ++ agains core ns ds) new-names
          ∙ ap (λ (xs : List ℕ). redefined ++ xs) (sym (again-by rules d ds g.names None d.adds f refl)) ∙ g.again;
      before = ap (λ (ns : List (List ℕ)). others ++ earlies core (length (rules_of new)) ns ds) new-names
          ∙ ap (λ (n : ℕ). others ++ earlies core n (known rules ++ d.name ∷ []) ds) new-size ∙ e
          ∙ ap (λ (xs : List ℕ). early ++ xs) (sym (early-by rules d ds g.names None d.adds f refl
          (length (rules_of rules)) b is)) ∙ g.before;
    }

-- with the extension noted, and without
pub goes-early : (all : List Definition) (rules new : table.Rules Elem) (redefined early : List ℕ) (d : Definition)
    (ds : List Definition) (n : ℕ) → Goes all rules redefined early (d ∷ ds) → is_early core d ≡ true
    → find_in rules d.name ≡ None →
    new.names ≡ rules.names → rules_of new ≡ rules_of rules ++ begun core d ∷ [] → n ≡ length rules.rules
    → Goes all new redefined (early ++ n ∷ []) ds
goes-early all rules new redefined early d ds n g is f folds same e =
    goes-begun all rules redefined early d ds g new true is f folds same (early ++ n ∷ [])
    (append_assoc early (n ∷ []) _ ∙ ap (λ (k : ℕ). early ++ k ∷ earlies core (suc (length (rules_of rules)))
    (known rules ++ d.name ∷ []) ds) (e ∙ sym (length-map rules.rules rule_of)))

pub goes-new : (all : List Definition) (rules new : table.Rules Elem) (redefined early : List ℕ) (d : Definition)
    (ds : List Definition) → Goes all rules redefined early (d ∷ ds) → is_early core d ≡ false
    → find_in rules d.name ≡ None →
    new.names ≡ rules.names → rules_of new ≡ rules_of rules ++ begun core d ∷ [] → Goes all new redefined early ds
goes-new all rules new redefined early d ds g is f folds same = goes-begun all rules redefined early d ds g new false is
    f folds same early refl

-- another body of the rule that a definition names
abbrev row_body : table.Rule Elem → Elem
row_body row = row.body

not-true : (b : Bool) → (b ≡ true → ⊥) → b ≡ false
not-true true f = absurd (f refl)
not-true false f = refl

module _ (d : Definition) where
  abbrev grown_row : table.Rule Elem → Rule
  grown_row row = record { name = row.name; body = with_alternatives (element_of row.body) d.body; span = row.span }

  kept-row : (row : table.Rule Elem) → (same_name Fold d.name row.name ≡ true → ⊥)
      → rule_of row ≡ grow_named d (rule_of row)
  kept-row row f = sym (ap (λ (c : Bool). cond c (grown_row row) (rule_of row))
      (not-true (same_name Fold d.name row.name) f))

  named-row : (row : table.Rule Elem) → same_name Fold d.name row.name ≡ true
      → grown_row row ≡ grow_named d (rule_of row)
  named-row row e = sym (ap (λ (c : Bool). cond c (grown_row row) (rule_of row)) e)

  none-grown : (rows : List (table.Rule Elem)) → ((j : ℕ) (row : table.Rule Elem) → slice_get rows j ≡ Some row
      → same_name Fold d.name row.name ≡ true → ⊥) → map rule_of rows ≡ map (grow_named d) (map rule_of rows)
  none-grown [] f = refl
  none-grown (row ∷ rows) f =
      ap (λ (r : Rule). r ∷ map rule_of rows) (kept-row row (f 0 row refl))
      ∙ ap (λ (rs : List Rule). grow_named d (rule_of row) ∷ rs) (none-grown rows (λ j r h k. f (suc j) r h k))

  set-grown : (rows : List (table.Rule Elem)) (id : ℕ) (old new : Elem) → slice_get (map row_body rows) id ≡ Some old
      → element_of new ≡ with_alternatives (element_of old) d.body →
      ((j : ℕ) (row : table.Rule Elem) → slice_get rows j ≡ Some row → same_name Fold d.name row.name ≡ true → j ≡ id)
      → ((row : table.Rule Elem) → slice_get rows id ≡ Some row → same_name Fold d.name row.name ≡ true) →
      map rule_of (set_body rows id new) ≡ map (grow_named d) (map rule_of rows)
  set-grown [] id old new h e f t = refl
  set-grown (row ∷ rows) zero old new h e f t =
      let body : element_of new ≡ with_alternatives (element_of row.body) d.body = e
      ∙ ap (λ (x : Elem). with_alternatives (element_of x) d.body) (sym (some-one h)) in
      ap (λ (x : Element). record { name = row.name; body = x; span = row.span } ∷ map rule_of rows) body
      ∙ ap (λ (r : Rule). r ∷ map rule_of rows) (named-row row (t row refl))
      ∙ ap (λ (rs : List Rule). grow_named d (rule_of row) ∷ rs)
      (none-grown rows (λ j r k s. (let z = f (suc j) r k s in omega (arith, z))))
  set-grown (row ∷ rows) (suc id) old new h e f t =
      ap (λ (r : Rule). r ∷ map rule_of (set_body rows id new))
      (kept-row row (λ s. (let z = f 0 row refl s in omega (arith, z))))
      ∙ ap (λ (rs : List Rule). grow_named d (rule_of row) ∷ rs)
      (set-grown rows id old new h e (λ j r k u. (let z = f (suc j) r k u in omega (arith, z))) (λ r k. t r k))

same-found : (t : table.Rules Elem) (m n : List ℕ) → same_name Fold m n ≡ true → t.names ≡ Fold
    → find_in t m ≡ find_in t n
same-found t m n e folds =
    let key : key_of Fold m ≡ key_of Fold n = (bytes_eq-Decides (key_of Fold m) (key_of Fold n)).0 e in
    rw folds (ap (λ (k : List ℕ). position (λ (rule : table.Rule Elem). bytes_eq k (key_of Fold rule.name)) t.rules)
    key)

-- .. is what adding alternatives does
pub extended-rules : (d : Definition) (old new : table.Rules Elem) (id : ℕ) → old.names ≡ Fold → HasUniqueNames old
    → find_in old d.name ≡ Some id → IsExtended old new id d.body → (new.names ≡ old.names)
    × (rules_of new ≡ map (grow_named d) (rules_of old))
extended-rules d old new id folds unique f x = (
  ap (λ (t : table.Rules Elem). t.names) x.is,
  ap rules_of x.is ∙ set-grown d old.rules id x.body x.joins x.there x.sums
      (λ j row h e. some-one (sym (unique.own j row h) ∙ sym (same-found old d.name row.name e folds) ∙ f))
      (λ row h. (let at = position-Some (λ (rule : table.Rule Elem). same_name old.names d.name rule.name) old.rules id
      row f in
      let there = at.1 in let own : get_or old.rules id row ≡ row = get_or_from_slice_get old.rules id row row h in
      rw (own, folds) at there)),
)

-- a body that is written twice
set-twice : (rows : List (table.Rule Elem)) (id : ℕ) (x w : Elem) → set_body (set_body rows id x) id w
    ≡ set_body rows id w
set-twice [] id x w = refl
set-twice (row ∷ rows) zero x w = refl
set-twice (row ∷ rows) (suc id) x w = ap (λ (rs : List (table.Rule Elem)). row ∷ rs) (set-twice rows id x w)

pub with-twice : (t : table.Rules Elem) (id : ℕ) (x w : Elem) → table.with_body (table.with_body t id x) id w
    ≡ table.with_body t id w
with-twice t id x w = ap (λ (rs : List (table.Rule Elem)). record { names = t.names; rules = rs })
    (set-twice t.rules id x w)

pub length-set : (rows : List (table.Rule Elem)) (id : ℕ) (x : Elem) → length (set_body rows id x) ≡ length rows
length-set [] id x = refl
length-set (row ∷ rows) zero x = refl
length-set (row ∷ rows) (suc id) x = ap suc (length-set rows id x)

-- one definition more
one-more : (all : List Definition) (old new : table.Rules Elem) (redefined early others more : List ℕ) (d : Definition)
    (left : List Definition) → Goes all old redefined early (d ∷ left)
    → TakesDefinition d old redefined early new others more → Goes all new others more left
one-more all old _ redefined early _ _ d left g (grows id new f e names same) =
    goes-grown all old redefined early d left g id new f e names same
one-more all old _ redefined early _ _ d left g (redefines id f e) = goes-again all old redefined early d left g id f e
one-more all old _ redefined early _ _ d left g (extends new f b) =
    goes-early all old new redefined early d left (length old.rules) g (sym b.is) f b.names b.rules refl
one-more all old _ redefined early _ _ d left g (begins new f b) =
    goes-new all old new redefined early d left g (sym b.is) f b.names b.rules

pub goes-on : (all : List Definition) (old new : table.Rules Elem) (redefined early others more : List ℕ)
    (given rest : List CodeDefinition) (d : CodeDefinition) → Goes all old redefined early (map definition_from given)
    → given ≡ d ∷ rest → TakesDefinition (definition_from d) old redefined early new others more
    → Goes all new others more (map definition_from rest)
goes-on all old new redefined early others more given rest d g s t =
    one-more all old new redefined early others more (definition_from d) (map definition_from rest) (rw s at g) t
