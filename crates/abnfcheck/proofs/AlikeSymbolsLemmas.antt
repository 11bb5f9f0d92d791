-- Symbols that no set in the bodies of rules distinguishes.
-- Serves: new_symbols
use Rattle.std.proofs.Common.{◌≡◌, ◌∙◌, ◌⊎◌, inl, inr, refl, sym, subst, arith, ℕ, ◌+◌, ◌<◌, ◌≤◌, Bool, true, false}
use Rattle.std.proofs.Common.{List}
use Rattle.std.proofs.Common.{length, Some, ◌↔◌}
use Rattle.std.proofs.lemmas.Bool.{cases_lt}
use Rattle.std.proofs.lemmas.List.{length-map}
use Rattle.std.proofs.lemmas.Option.{slice_get_within}
use Rattle.std.specs.Prelude.{Contains, slice_get}
use Rattle.abnfread.specs.Element.{Element, Rule, bodies}
use Rattle.abnfcheck.specs.AlikeSymbols.{AreAlikeIn, AreAlikeInRules}
use Rattle.abnfcheck.proofs.NewSymbolsLemmas.{got_there}

-- of all elements of a list
module _ (P : ℕ → Type 0) (xs : List ℕ) where
  abbrev pub AllTo : ℕ → Type 0
  AllTo n = (j x : ℕ) → j < n → slice_get xs j ≡ Some x → P x

  pub all_more : (n x : ℕ) → slice_get xs n ≡ Some x → P x → AllTo n → AllTo (n + 1)
  all_more n x at_n holds before j y lt at_j = by (cases_lt j n)
    where
      by : (j < n) ⊎ (n ≤ j) → P y
      by (inl less) = before j y less at_j
      by (inr more) =
          let here : j ≡ n = omega (arith, lt, more) in
          let at_y = subst (λ v. slice_get xs v ≡ Some y) here at_j in
          let one : x ≡ y = cc (at_n, at_y) in
          subst P one holds

  pub all_contained : (n : ℕ) → length xs ≤ n → AllTo n → (x : ℕ) → Contains xs x → P x
  all_contained n le all x h =
      let at_x = got_there xs x h in
      all h.0 x (let lt = slice_get_within xs h.0 x at_x in omega (arith, lt, le)) at_x

-- both hold, or neither does
pub one_answer : {A B : Type 0} (a b : Bool) → (a ≡ true) ↔ A → (b ≡ true) ↔ B → a ≡ b → A ↔ B
one_answer a b is_a is_b same = (λ h. is_b.0 (sym same ∙ is_a.1 h), λ h. is_a.0 (same ∙ is_b.1 h))

pub same_answer : {A B : Type 0} (a b : Bool) → (a ≡ true) ↔ A → (b ≡ true) ↔ B → A ↔ B → a ≡ b
same_answer true true is_a is_b both = refl
same_answer true false is_a is_b both = sym (is_b.1 (both.0 (is_a.0 refl)))
same_answer false true is_a is_b both = is_a.1 (both.1 (is_b.0 refl))
same_answer false false is_a is_b both = refl

-- of the bodies of the first rules
module _ (rules : List Rule) (c d : ℕ) where
  abbrev pub AreAlikeTo : ℕ → Type 0
  AreAlikeTo n = (id : ℕ) (el : Element) → id < n → slice_get (bodies rules) id ≡ Some el → AreAlikeIn c d el

  pub rule_more : (n : ℕ) (el : Element) → slice_get (bodies rules) n ≡ Some el → AreAlikeIn c d el → AreAlikeTo n
      → AreAlikeTo (n + 1)
  rule_more n el at_n alike before id other lt at_id = by (cases_lt id n)
    where
      by : (id < n) ⊎ (n ≤ id) → AreAlikeIn c d other
      by (inl less) = before id other less at_id
      by (inr more) =
          let here : id ≡ n = omega (arith, lt, more) in
          let at_other = subst (λ v. slice_get (bodies rules) v ≡ Some other) here at_id in
          let one : el ≡ other = cc (at_n, at_other) in
          subst (λ v. AreAlikeIn c d v) one alike

  pub rules_alike : (n : ℕ) → length rules ≤ n → AreAlikeTo n → AreAlikeInRules rules c d
  rules_alike n le all id el at_id =
      let lt = slice_get_within (bodies rules) id el at_id in
      let size = length-map rules (λ (rule : Rule). rule.body) in
      all id el (omega (arith, lt, size, le)) at_id
