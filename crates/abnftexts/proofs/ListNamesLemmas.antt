-- The numbers of rules that are listed, and the first of them.
-- Serves: find_fates, find_order, find_clashes, join_texts
use Rattle.std.proofs.Common.{◌≡◌, ℕ, suc, ◌+◌, ◌&&◌, ◌||◌, not, Bool, true, false, cond, List, [], ◌∷◌}
use Rattle.std.proofs.Common.{length, map, drop, refl, sym, ap, ◌∙◌, arith, if◌then◌else◌, add-one}
use Rattle.std.proofs.Common.{inl, inr, Global, Vec}
use Rattle.std.proofs.lemmas.Bool.{cases_Bool}
use Rattle.std.proofs.lemmas.List.{length-map}
use Rattle.std.specs.List.{enumerate_from, filter, list_any, prefix_len}
use Rattle.std.specs.Option.{unwrap_or}
use Rattle.std.specs.Prelude.{slice_get, IfOk, Result, Ok, Err}
use Rattle.ruletable.specs.Rules.{Rules, same_name}
use Rattle.ruletable.specs.declared.table.NameCase.TheVariants.{Fold}
use Rattle.diagnostics.specs.NumberLists.{numbers_for, positions_from}
use Rattle.abnftexts.specs.GivenRules.{RuleGiven, first_wanted, text_rule, yields_to}
use Rattle.abnftexts.specs.JoinedRules.{adding_numbers}
use Rattle.abnftexts.specs.ListedRules.{has_some, is_listed_for}
use Rattle.abnftexts.specs.declared.join.by_name.Listed.TheVariants.{Additions, Elements}
use Rattle.abnftexts.specs.declared.join.given.GivenRule.{GivenRule}

module _ {A : Type 0} (p : A → Bool) where
  -- the first position is where nothing before passes
  first-position : (n : ℕ) (xs : List A) → unwrap_or (slice_get (positions_from n p xs) 0) (n + length xs)
      ≡ n + prefix_len (λ x. not (p x)) xs
  first-position n [] = refl
  first-position n (x ∷ xs) = by (first-position (suc n) xs) (p x)
    where
      by : unwrap_or (slice_get (positions_from (suc n) p xs) 0) (suc n + length xs)
          ≡ suc n + prefix_len (λ x. not (p x)) xs → (t : Bool)
          → unwrap_or (slice_get (cond t (n ∷ positions_from (suc n) p xs) (positions_from (suc n) p xs)) 0)
          (n + suc (length xs)) ≡ n + cond (not t) (1 + prefix_len (λ x. not (p x)) xs) 0
      by rest true = omega arith
      by rest false =
          let size : n + suc (length xs) ≡ suc n + length xs = omega arith in
          ap (λ (k : ℕ). unwrap_or (slice_get (positions_from (suc n) p xs) 0) k) size ∙ rest ∙ omega arith

  -- the positions, as numbers of elements
  positions-enumerated : (n : ℕ) (xs : List A)
      → positions_from n p xs ≡ map (λ q. q.0) (filter (λ q. p q.1) (enumerate_from n xs))
  positions-enumerated n [] = refl
  positions-enumerated n (x ∷ xs) = by (positions-enumerated (suc n) xs
      ∙ ap (λ (k : ℕ). map (λ q. q.0) (filter (λ q. p q.1) (enumerate_from k xs))) (sym (add-one n))) (p x)
    where
      by : positions_from (suc n) p xs ≡ map (λ q. q.0) (filter (λ q. p q.1) (enumerate_from (n + 1) xs)) → (t : Bool)
          → cond t (n ∷ positions_from (suc n) p xs) (positions_from (suc n) p xs)
          ≡ map (λ q. q.0) (cond t ((n, x) ∷ filter (λ q. p q.1) (enumerate_from (n + 1) xs))
          (filter (λ q. p q.1) (enumerate_from (n + 1) xs)))
      by h true = ap (λ (l : List ℕ). n ∷ l) h
      by h false = h

  -- whether there are any
  any-position : (n : ℕ) (xs : List A) → has_some (positions_from n p xs) ≡ list_any p xs
  any-position n [] = refl
  any-position n (x ∷ xs) = by (any-position (suc n) xs) (p x)
    where
      by : has_some (positions_from (suc n) p xs) ≡ list_any p xs → (t : Bool)
          → has_some (cond t (n ∷ positions_from (suc n) p xs) (positions_from (suc n) p xs)) ≡ (t || list_any p xs)
      by h true = refl
      by h false = h

  -- a test that fails everywhere
  pub none-passes : ((x : A) → p x ≡ false) → (xs : List A) → prefix_len (λ x. not (p x)) xs ≡ length xs
  none-passes none [] = refl
  none-passes none (x ∷ xs) =
      let rest = none-passes none xs in rw (none x) (omega (arith, rest))

-- positions among what stands for elements
positions-mapped : {A B : Type 0} (f : A → B) (p : B → Bool) (n : ℕ) (xs : List A)
    → positions_from n (λ x. p (f x)) xs ≡ positions_from n p (map f xs)
positions-mapped f p n [] = refl
positions-mapped f p n (x ∷ xs) =
    ap (λ (l : List ℕ). if p (f x) then n ∷ l else l) (positions-mapped f p (suc n) xs)

module _ {A : Type 0} (p q : A → Bool) where
  pub prefix-agrees : ((x : A) → p x ≡ q x) → (xs : List A) → prefix_len p xs ≡ prefix_len q xs
  prefix-agrees agree [] = refl
  prefix-agrees agree (x ∷ xs) =
      ap (λ (t : Bool). cond t (1 + prefix_len p xs) 0) (agree x)
      ∙ ap (λ (k : ℕ). cond (q x) (1 + k) 0) (prefix-agrees agree xs)

  -- what passes the one passes the other, so the search for it can begin where the other one finds something
  pub search-later : ((x : A) → p x ≡ true → q x ≡ true) → (xs : List A)
      → prefix_len (λ x. not (q x)) xs + prefix_len (λ x. not (p x)) (drop (prefix_len (λ x. not (q x)) xs) xs)
      ≡ prefix_len (λ x. not (p x)) xs
  search-later so [] = refl
  search-later so (x ∷ xs) = by (prefix_len (λ x. not (q x)) xs) (search-later so xs) (q x) (so x)
    where
      by : (first : ℕ) → first + prefix_len (λ x. not (p x)) (drop first xs) ≡ prefix_len (λ x. not (p x)) xs
          → (t : Bool) → (p x ≡ true → t ≡ true)
          → cond (not t) (1 + first) 0 + prefix_len (λ x. not (p x)) (drop (cond (not t) (1 + first) 0) (x ∷ xs))
          ≡ prefix_len (λ x. not (p x)) (x ∷ xs)
      by first rest true so = omega arith
      by first rest false so =
          let fails : p x ≡ false = elim (cases_Bool (p x)) [ inl e ↦ absurd (cc (so e)) | inr e ↦ e ] in
          let next : 1 + first ≡ suc first = omega arith in
          rw (fails, next) (omega (arith, rest))

module _ (passes : List ℕ → RuleGiven → Bool) (rules : List GivenRule) where
  abbrev passes_for : List ℕ → GivenRule → Bool
  passes_for name rule = passes name (text_rule rule)

  -- the first number of a list
  pub first-listed : (name numbers : List ℕ) → numbers ≡ positions_from 0 (passes_for name) rules
      → unwrap_or (slice_get numbers 0) (length rules) ≡ prefix_len (λ r. not (passes name r)) (map text_rule rules)
  first-listed name numbers is =
      let rows = map text_rule rules in
      let size : length rules ≡ 0 + length rows = omega (arith, length-map rules text_rule) in
      ap (λ (ns : List ℕ). unwrap_or (slice_get ns 0) (length rules))
      (is ∙ positions-mapped text_rule (passes name) 0 rules)
      ∙ ap (λ (k : ℕ). unwrap_or (slice_get (positions_from 0 (passes name) rows) 0) k) size
      ∙ first-position (passes name) 0 rows ∙ omega arith

  -- whether there is a list
  pub any-listed : (name numbers : List ℕ) → numbers ≡ positions_from 0 (passes_for name) rules
      → has_some numbers ≡ list_any (passes name) (map text_rule rules)
  any-listed name numbers is =
      ap has_some (is ∙ positions-mapped text_rule (passes name) 0 rules)
      ∙ any-position (passes name) 0 (map text_rule rules)

moved-and : (b s u : Bool) → ((b && u) && s) ≡ (b && (s && u))
moved-and true true true = refl
moved-and true true false = refl
moved-and true false true = refl
moved-and true false false = refl
moved-and false s u = refl

-- the first definition of a name that has elements is what a rule of prose yields to
pub wanted-listed : (rules : List GivenRule) (rule : RuleGiven) (numbers : List ℕ) → rule.is_prose ≡ true
    → numbers ≡ positions_from 0 (λ r. is_listed_for Elements rule.name (text_rule r)) rules
    → unwrap_or (slice_get numbers 0) (length rules) ≡ first_wanted rule (map text_rule rules)
wanted-listed rules rule numbers prose is =
    first-listed (is_listed_for Elements) rules rule.name numbers is
    ∙ prefix-agrees (λ r. not (is_listed_for Elements rule.name r)) (λ r. not (yields_to rule r)) agree
    (map text_rule rules)
  where
    agree : (r : RuleGiven) → not (is_listed_for Elements rule.name r) ≡ not (yields_to rule r)
    agree r = rw prose (ap not (moved-and (not r.adds) (same_name Fold rule.name r.name) (not r.is_prose)))

-- what is no prose yields to nothing
pub none_wanted : (rules : List GivenRule) (rule : RuleGiven) → rule.is_prose ≡ false
    → length rules ≡ first_wanted rule (map text_rule rules)
none_wanted rules rule has =
    let none = none-passes (yields_to rule) (λ r. rw has refl) (map text_rule rules) in
    omega (arith, none, length-map rules text_rule)

-- the numbers of what adds to a rule
pub adding-listed : (rules : List GivenRule) (rule : RuleGiven) (numbers : List ℕ)
    → numbers ≡ positions_from 0 (λ r. is_listed_for Additions rule.name (text_rule r)) rules
    → numbers ≡ adding_numbers rule (map text_rule rules)
adding-listed rules rule numbers is = is ∙ positions-mapped text_rule (is_listed_for Additions rule.name) 0 rules
    ∙ positions-enumerated (is_listed_for Additions rule.name) 0 (map text_rule rules)

-- a first number that was looked up by a name
pub found-first : {E : Type 0} (lists : Rules (Vec ℕ Global)) (word name : List ℕ) (count first : ℕ) (r : Result ℕ E)
    → word ≡ name → unwrap_or (slice_get (numbers_for lists name) 0) count ≡ first
    → IfOk r (λ n. n ≡ unwrap_or (slice_get (numbers_for lists word) 0) count) → IfOk r (λ n. n ≡ first)
found-first lists word name count first (Ok n) is e h =
    h ∙ ap (λ (w : List ℕ). unwrap_or (slice_get (numbers_for lists w) 0) count) is ∙ e
found-first lists word name count first (Err x) is e h = tt
