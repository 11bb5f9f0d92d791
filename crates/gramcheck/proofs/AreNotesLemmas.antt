-- The notes on a grammar, from the marks on its rules and the uses of names.
-- Serves: check_peg, one_list_of_notes, redefinitions
use Rattle.std.proofs.Common.{◌≡◌, ℕ, suc, ◌==◌, ◌||◌, Bool, true, false, not, cond, List, [], ◌∷◌, ◌++◌, length, map}
use Rattle.std.proofs.Common.{get_or, Option, Some, None, refl, sym, ap, subst, ◌∙◌, arith, inl, inr}
use Rattle.std.specs.Prelude.{position, slice_get, option_to_list, Contains}
use Rattle.std.specs.Str.{bytes_eq}
use Rattle.std.specs.List.{list_any}
use Rattle.std.proofs.Math.Bool.{or-false}
use Rattle.std.proofs.lemmas.Bool.{both_ways, cases_Bool, or_right, or_cases}
use Rattle.std.proofs.lemmas.Bool.Decides.{eqb_tells}
use Rattle.std.proofs.lemmas.List.{length-map}
use Rattle.std.proofs.lemmas.Option.{slice_get-map, slice_get_within}
use Rattle.std.proofs.lemmas.Simd.{map-map}
use Rattle.std.specs.Option.{option_map}
use Rattle.ruletable.specs.Rules.{Rules, names_of}
use Rattle.std.proofs.lemmas.List.Folds.{list_any-append, list_any_at}
use Rattle.ruletable.specs.Notes.{Said, said}
use Rattle.ruletable.specs.declared.note.NoteKind.TheVariants.{Redefined, Undefined, Unused, LeftRecursion, Loop}
use Rattle.ruletable.specs.declared.table.NameCase.TheVariants.{Exact}
use Rattle.fixpoint.specs.FirstUses.{is_among, news}
use Rattle.fixpoint.specs.IdMarks.{chosen}
use Rattle.fixpoint.proofs.AreMarksLemmas.{mark_tests, marks-opposite}
use Rattle.fixpoint.proofs.ChosenLemmas.{chosen-map}
use Rattle.pegread.specs.Pattern.{Rule}
use Rattle.gramcheck.specs.Left.{IsLeftRecursive, Loops}
use Rattle.gramcheck.specs.GrammarNotes.{start_of, IsUnused, names_at, AreNotes, AreRedefinitions, AreMarks, Those}
use Rattle.gramcheck.specs.GrammarNotes.{no_more, this_one, not_this}
use Rattle.gramcheck.specs.Uses.{names_used, rule_names, AreUses}
use Rattle.gramcheck.proofs.RuleNameLemmas.{same-name, own-name, other-name}
use Rattle.fixpoint.specs.IdMarks as ids

-- at most one list is those of which something holds, and exact marks choose it
-- at most one list is those of which P holds
pub those-one : {A : Type 0} (P : A → Type 0) (xs ys zs : List A) → Those P xs ys → Those P xs zs → ys ≡ zs
those-one P [] ys zs no_more no_more = refl
those-one P (x ∷ xs) ys zs (this_one {ys = ys'} h d) (this_one {ys = zs'} g e) =
    ap (λ v. x ∷ v) (those-one P xs ys' zs' d e)
those-one P (x ∷ xs) ys zs (this_one h d) (not_this g e) = absurd (g h)
those-one P (x ∷ xs) ys zs (not_this h d) (this_one g e) = absurd (h g)
those-one P (x ∷ xs) ys zs (not_this h d) (not_this g e) = those-one P xs ys zs d e

-- exact marks choose those of which P holds
marks-tail : (P : Rule → Type 0) (x : Rule) (xs : List Rule) (mark : Bool) (marks : List Bool)
    → AreMarks P (x ∷ xs) (mark ∷ marks) → AreMarks P xs marks
marks-tail P x xs mark marks m = record {
  count = omega (arith, m.count);
  exact = λ id y. m.exact (suc id) y;
}

pub those-chosen : (P : Rule → Type 0) (xs : List Rule) (marks : List Bool) → AreMarks P xs marks
    → Those P xs (chosen marks xs)
those-chosen P [] marks m = no_more
those-chosen P (x ∷ xs) [] m = absurd (omega (arith, m.count))
those-chosen P (x ∷ xs) (true ∷ marks) m = this_one ((m.exact 0 x refl).0 refl)
    (those-chosen P xs marks (marks-tail P x xs true marks m))
those-chosen P (x ∷ xs) (false ∷ marks) m = not_this (λ h. both_ways false refl ((m.exact 0 x refl).1 h))
    (those-chosen P xs marks (marks-tail P x xs false marks m))

-- there is at most one list of notes
pub notes-one : (rules : List Rule) (again : List (List ℕ)) (start : Option (List ℕ)) (a b : List Said)
    → AreNotes rules again start a → AreNotes rules again start b → a ≡ b
notes-one rules again start a b g h =
    let redefined = those-one (λ rule. Contains again rule.name) rules g.redefined h.redefined g.are_redefined
    h.are_redefined in
    let unused = those-one (IsUnused start rules) rules g.unused h.unused g.are_unused h.are_unused in
    let recursive = those-one (IsLeftRecursive rules) rules g.recursive h.recursive g.are_recursive h.are_recursive in
    let looping = those-one (Loops rules) rules g.looping h.looping g.are_looping h.are_looping in
    rw (g.all, redefined, unused, recursive, looping) (sym h.all)

-- the test whether a name is in a list
pub among-contains : (names : List (List ℕ)) (n : List ℕ) → is_among Exact names n ≡ true → Contains names n
among-contains [] n h = absurd (both_ways false refl h)
among-contains (x ∷ names) n h = elim (cases_Bool (bytes_eq n x)) [
  | inl e ↦ (0, omega arith, sym (same-name n x e))
  | inr e ↦
      let later = among-contains names n (sym (ap (λ b. b || is_among Exact names n) e) ∙ h) in
      (suc later.0, (let low = later.1 in omega arith), later.2)
]

pub contains-among : (names : List (List ℕ)) (n : List ℕ) → Contains names n → is_among Exact names n ≡ true
contains-among names n c = list_any_at (bytes_eq n) names c.0 n c.1
    (subst (λ x. bytes_eq n x ≡ true) (sym c.2) (own-name n))

-- the names with these ids
module _ (rules : List Rule) (id : ℕ) (n : List ℕ) (at : slice_get (rule_names rules) id ≡ Some n)
    (unique : (i : ℕ) → slice_get (rule_names rules) i ≡ Some n → i ≡ id) where
  at-one : (i : ℕ) (r : Option (List ℕ)) → slice_get (rule_names rules) i ≡ r → is_among Exact (option_to_list r) n
      ≡ (i == id)
  at-one i None h = elim (eqb_tells i id) [
    | inl e ↦ absurd (let here = subst (λ (k : ℕ). slice_get (rule_names rules) k ≡ None) e.1 h in cc (at, here))
    | inr e ↦ sym (e.0)
  ]
  at-one i (Some m) h = or-false (bytes_eq n m) ∙ elim (eqb_tells i id) [
    | inl e ↦
        let here = subst (λ (k : ℕ). slice_get (rule_names rules) k ≡ Some m) e.1 h in
        let is : n ≡ m = cc (at, here) in
        subst (λ x. bytes_eq n x ≡ true) is (own-name n) ∙ sym (e.0)
    | inr e ↦ other-name n m (λ is. e.1 (unique i (subst (λ x. slice_get (rule_names rules) i ≡ Some x) (sym is) h)))
        ∙ sym (e.0)
  ]

  pub at-ids : (ids : List ℕ) → is_among Exact (names_at rules ids) n ≡ list_any (λ i. i == id) ids
  at-ids [] = refl
  at-ids (i ∷ ids) =
      list_any-append (bytes_eq n) (option_to_list (slice_get (rule_names rules) i)) (names_at rules ids)
      ∙ ap (λ b. b || is_among Exact (names_at rules ids) n) (at-one i (slice_get (rule_names rules) i) refl)
      ∙ ap (λ b. (i == id) || b) (at-ids ids)

-- the name of the rule at an id
name-at : (rules : List Rule) (id : ℕ) (rule : Rule) → slice_get rules id ≡ Some rule → slice_get (rule_names rules) id
    ≡ Some rule.name
name-at rules id rule at = slice_get-map (λ r. r.name) rules id ∙ ap (option_map (λ (r : Rule). r.name)) at

-- the start rule's name, as a list of at most one
among-start : (o : Option (List ℕ)) (n : List ℕ) → is_among Exact (option_to_list o) n ≡ true → o ≡ Some n
among-start None n h = absurd (both_ways false refl h)
among-start (Some m) n h = ap (λ x. Some x) (sym (same-name n m (sym (or-false (bytes_eq n m)) ∙ h)))

-- the names that no rule has are the same with the first rule's name before all uses
news-start : (start : Option (List ℕ)) (rules : List Rule) (uses : List (List ℕ)) →
    news Exact (rule_names rules) (option_to_list (start_of start rules) ++ uses) ≡ news Exact (rule_names rules)
    (option_to_list start ++ uses)
news-start (Some name) rules uses = refl
news-start None [] uses = refl
news-start None (rule ∷ rules) uses =
    ap (λ b. cond b (news Exact (rule_names (rule ∷ rules)) uses)
    (rule.name ∷ news Exact (rule_names (rule ∷ rules) ++ rule.name ∷ []) uses))
    (ap (λ b. b || is_among Exact (rule_names rules) rule.name) (own-name rule.name))

-- what all uses in a grammar say of its rules
-- where each rule is the one that its name finds
module _ (rules : List Rule) (own : (id : ℕ) (name : List ℕ) → slice_get (rule_names rules) id ≡ Some name
    → position (bytes_eq name) (rule_names rules) ≡ Some id) where
  -- the rules that are defined again
  pub marks-again : (numbers : List ℕ) (again : List Bool) → ids.AreMarks (Contains numbers) (length rules) again
      → AreMarks (λ rule. Contains (names_at rules numbers) rule.name) rules again
  marks-again numbers again marks = record {
    count = marks.count_is;
    exact = λ id rule at. (
      λ on. among-contains (names_at rules numbers) rule.name (reported id rule at ∙ on),
      λ is. sym (reported id rule at) ∙ contains-among (names_at rules numbers) rule.name is,
    );
  }
    where
      reported : (id : ℕ) (rule : Rule) → slice_get rules id ≡ Some rule
          → is_among Exact (names_at rules numbers) rule.name
          ≡ get_or again id false
      reported id rule at =
          let here = name-at rules id rule at in
          at-ids rules id rule.name here (λ i other. let a = own i rule.name other in let b = own id rule.name here in
          cc (a, b)) numbers
          ∙ sym (mark_tests numbers (length rules) again marks id (slice_get_within rules id rule at))

module _ (rules : List Rule) (start : Option (List ℕ)) (numbers : List ℕ) (missing : Rules (Unit {0}))
    (uses : AreUses rules (option_to_list (start_of start rules) ++ names_used rules) numbers missing) where
  abbrev seen : List (List ℕ)
  seen = option_to_list (start_of start rules) ++ names_used rules

  seen-start : (n : List ℕ) → is_among Exact seen n ≡ false → start_of start rules ≡ Some n → ⊥
  seen-start n h is =
      both_ways (is_among Exact seen n) h
      (list_any-append (bytes_eq n) (option_to_list (start_of start rules)) (names_used rules)
      ∙ ap (λ o. is_among Exact (option_to_list o) n || is_among Exact (names_used rules) n) is
      ∙ ap (λ b. (b || false) || is_among Exact (names_used rules) n) (own-name n))

  seen-used : (n : List ℕ) → is_among Exact seen n ≡ false → Contains (names_used rules) n → ⊥
  seen-used n h c =
      both_ways (is_among Exact seen n) h
      (list_any-append (bytes_eq n) (option_to_list (start_of start rules)) (names_used rules)
      ∙ or_right (is_among Exact (option_to_list (start_of start rules)) n) (is_among Exact (names_used rules) n)
      (contains-among (names_used rules) n c))

  not-seen : (n : List ℕ) → (Contains (names_used rules) n → ⊥) → (start_of start rules ≡ Some n → ⊥)
      → is_among Exact seen n ≡ false
  not-seen n used first = elim (cases_Bool (is_among Exact seen n)) [
    | inl e ↦ elim (or_cases _ _ (sym (list_any-append (bytes_eq n) (option_to_list (start_of start rules))
        (names_used rules)) ∙ e)) [
          | inl a ↦ absurd (first (among-start (start_of start rules) n a))
          | inr b ↦ absurd (used (among-contains (names_used rules) n b))
        ]
    | inr e ↦ e
  ]

  not-true : (b : Bool) → not b ≡ true → b ≡ false
  not-true true h = sym h
  not-true false h = refl

  -- the marks of the rules that are not used
  module _ (own : (id : ℕ) (name : List ℕ) → slice_get (rule_names rules) id ≡ Some name
      → position (bytes_eq name) (rule_names rules) ≡ Some id)
      (used : List Bool) (marks : ids.AreMarks (Contains numbers) (length rules) used) where
    mark-of : (id : ℕ) (rule : Rule) → slice_get rules id ≡ Some rule → get_or (map not used) id false
        ≡ not (is_among Exact seen rule.name)
    mark-of id rule at =
        let low = slice_get_within rules id rule at in
        marks-opposite used id (omega (arith, low, marks.count_is))
        ∙ ap not
        (mark_tests numbers (length rules) used marks id low
        ∙ uses.known rule.name id (own id rule.name (name-at rules id rule at)))

    pub marks-unused : AreMarks (IsUnused start rules) rules (map not used)
    marks-unused = record {
      count = length-map used not ∙ marks.count_is;
      exact = λ id rule at. (
        λ on.
            let out : is_among Exact seen rule.name ≡ false =
            not-true (is_among Exact seen rule.name) (sym (mark-of id rule at) ∙ on) in
            (seen-used rule.name out, seen-start rule.name out),
        λ is. mark-of id rule at ∙ ap not (not-seen rule.name is.0 is.1),
      );
    }

  -- the names that no rule has
  pub undefined-names : names_of missing ≡ news Exact (rule_names rules) (option_to_list start ++ names_used rules)
  undefined-names = uses.all ∙ news-start start rules (names_used rules)

-- all notes
reported-of : (rules : List Rule) (f : List ℕ → Said) (marks : List Bool) → map f (chosen marks (rule_names rules))
    ≡ map (λ rule. f rule.name) (chosen marks rules)
reported-of rules f marks = ap (map f) (chosen-map (λ rule. rule.name) marks rules)
    ∙ map-map f (λ rule. rule.name) (chosen marks rules)

pub are-notes : (rules : List Rule) (start : Option (List ℕ)) (redefined : List ℕ)
    (again unused recursive looping : List Bool) (notes : List Said)
    → AreMarks (λ rule. Contains (names_at rules redefined) rule.name) rules again →
    AreMarks (IsUnused start rules) rules unused → AreMarks (IsLeftRecursive rules) rules recursive
    → AreMarks (Loops rules) rules looping →
    notes ≡ map (said Redefined) (chosen again (rule_names rules))
    ++ (map (said Undefined) (news Exact (rule_names rules) (option_to_list start ++ names_used rules))
    ++ (map (said Unused) (chosen unused (rule_names rules))
    ++ (map (said LeftRecursion) (chosen recursive (rule_names rules))
    ++ map (said Loop) (chosen looping (rule_names rules))))) →
    AreNotes rules (names_at rules redefined) start notes
are-notes rules start redefined again unused recursive looping notes agains outs lefts loops h = record {
  redefined = chosen again rules;
  unused = chosen unused rules;
  recursive = chosen recursive rules;
  looping = chosen looping rules;
  are_redefined = those-chosen _ rules again agains;
  are_unused = those-chosen _ rules unused outs;
  are_recursive = those-chosen _ rules recursive lefts;
  are_looping = those-chosen _ rules looping loops;
  all = h ∙ rw (
    reported-of rules (said Redefined) again,
    reported-of rules (said Unused) unused,
    reported-of rules (said LeftRecursion) recursive,
    reported-of rules (said Loop) looping,
  ) refl;
}

-- the notes on rules that are defined again, alone
pub redefinitions-are : (rules : List Rule) (redefined : List ℕ) (again : List Bool) (notes : List Said)
    → AreMarks (λ rule. Contains (names_at rules redefined) rule.name) rules again →
    notes ≡ map (said Redefined) (chosen again (rule_names rules)) → AreRedefinitions rules (names_at rules redefined)
    notes
redefinitions-are rules redefined again notes marks h = record {
  redefined = chosen again rules;
  are_redefined = those-chosen _ rules again marks;
  all = h ∙ reported-of rules (said Redefined) again;
}
