-- Left steps lead to rules of the table alone; and where the first left-recursive rules end.
-- Serves: explain_peg_note, peg_positions
use Rattle.std.proofs.Common.{◌≡◌, ◌<◌, ◌≤◌, ℕ, zero, suc, Bool, true, false, List, [], ◌∷◌, Contains, map}
use Rattle.std.proofs.Common.{Option, Some, None, length, nat_lt, refl, sym, subst, arith, ⊎_elim, if◌then◌else◌, ◌∙◌}
use Rattle.std.specs.Prelude.{option_to_list, slice_index_or}
use Rattle.std.specs.List.{flat_map, position}
use Rattle.std.proofs.lemmas.Bool.{cases_lt, le-ltb, lt-ltb}
use Rattle.std.proofs.lemmas.List.{length-map}
use Rattle.std.proofs.lemmas.List.Elements.{Contains-append_cases}
use Rattle.std.proofs.lemmas.List.Quantifiers.{position-Some}
use Rattle.fixpoint.specs.StepRows.{AreStepsWithin}
use Rattle.fixpoint.proofs.ContainsLemmas.{none_of, only_one}
use Rattle.ruletable.specs.Rules as table
use Rattle.ruletable.specs.Rules.{find_in, same_name}
use Rattle.pegread.specs.Pattern.{Pattern}
use Rattle.pegread.specs.PegViews.{pattern_of}
use Rattle.pegread.specs.declared.expr.Expr.{Expr}
use Rattle.pegexplain.specs.LeftNotes.{EndsEarly, is_early, set_before}
use Rattle.pegexplain.specs.LeftUses.{NameUse, left_row, use_ids, uses_in}

first-below : (p : table.Rule Expr → Bool) (rules : List (table.Rule Expr)) (id : ℕ) → position p rules ≡ Some id
    → id < length rules
first-below p [] id is = absurd (cc is)
first-below p (rule ∷ rules) id is = (position-Some p (rule ∷ rules) id rule is).0

pub found-below : (rules : table.Rules Expr) (name : List ℕ) (id : ℕ) → find_in rules name ≡ Some id
    → id < length rules.rules
found-below rules name id is =
    first-below (λ (rule : table.Rule Expr). same_name rules.names name rule.name) rules.rules id is

module _ (f : List ℕ → Option ℕ) (count : ℕ) (below : (name : List ℕ) (id : ℕ) → f name ≡ Some id → id < count) where
  one-id : (m : ℕ) (o : Option ℕ) (name : List ℕ) → f name ≡ o → Contains (option_to_list o) m → m < count
  one-id m None name is h = absurd (none_of m h)
  one-id m (Some id) name is h = subst (λ (k : ℕ). k < count) (only_one id m h) (below name id is)

  id-below : (m : ℕ) (b : Bool) (name : List ℕ) → Contains (if b then option_to_list (f name) else []) m → m < count
  id-below m true name h = one-id m (f name) name refl h
  id-below m false name h = absurd (none_of m h)

  ids-below : (m : ℕ) (us : List NameUse) → Contains (flat_map (use_ids f) us) m → m < count
  ids-below m [] h = absurd (none_of m h)
  ids-below m (u ∷ us) h = ⊎_elim (λ k. id-below m u.is_left u.name k) (λ k. ids-below m us k)
      (Contains-append_cases (use_ids f u) (flat_map (use_ids f) us) m h)

  module _ (null : Pattern → Bool) where
    row-below : (rules : List (table.Rule Expr)) (n m : ℕ)
        → Contains (slice_index_or (map (λ rule. left_row f null (pattern_of rule.body)) rules) n []) m → m < count
    row-below [] n m h = absurd (none_of m h)
    row-below (rule ∷ rules) zero m h = ids-below m (uses_in null true (pattern_of rule.body)) h
    row-below (rule ∷ rules) (suc n) m h = row-below rules n m h

    pub rows-within : (rules : List (table.Rule Expr)) → length rules ≡ count
        → AreStepsWithin (map (λ rule. left_row f null (pattern_of rule.body)) rules)
    rows-within rules all = record {
      within = λ n m h.
          let below-count = row-below rules n m h in
          let counted = length-map rules (λ (rule : table.Rule Expr). left_row f null (pattern_of rule.body)) in
          omega (arith, below-count, counted, all);
    }

-- more marks are set before a later position
set-grows : (marks : List Bool) (a b : ℕ) → a ≤ b → set_before marks a ≤ set_before marks b
set-grows marks a zero le = (let same : a ≡ 0 = omega (arith, le) in
    subst (λ (k : ℕ). set_before marks k ≤ 0) (sym same) (omega arith))
set-grows marks a (suc b) le = ⊎_elim (λ lt. (let before = set-grows marks a b (omega (arith, lt)) in
    omega (arith, before))) (λ ge. (let same : a ≡ suc b = omega (arith, le, ge) in
    subst (λ (k : ℕ). set_before marks k ≤ set_before marks (suc b)) (sym same) (omega arith)))
    (cases_lt a (suc b))

module _ (marks : List Bool) (end : ℕ) (few : (k : ℕ) → k < end → set_before marks k < 8) where
  before-end : (k : ℕ) → k < end → nat_lt k end ≡ is_early marks k
  before-end k lt = lt-ltb k end lt ∙ sym (lt-ltb (set_before marks k) 8 (few k lt))

  -- where as many are set
  pub many-end : 8 ≤ set_before marks end → EndsEarly marks end
  many-end many = λ k lt. ⊎_elim (λ before. before-end k before)
      (λ after. (let grown = set-grows marks end k after in
      le-ltb k end after ∙ sym (le-ltb (set_before marks k) 8 (omega (arith, grown, many))))) (cases_lt k end)

  -- where all marks are before it
  pub all-end : length marks ≤ end → EndsEarly marks end
  all-end all = λ k lt. before-end k (omega (arith, lt, all))
