-- What rules give one after the other, with one rule more.
-- Serves: peg_hints
use Rattle.std.proofs.Common.{◌≡◌, ℕ, zero, suc, ◌+◌, List, [], ◌∷◌, ◌++◌, map, take, Option, Some}
use Rattle.std.proofs.Common.{sym, ap, ◌∙◌, append_assoc, append-nil, add-one}
use Rattle.std.specs.List.{flat_map}
use Rattle.std.specs.Prelude.{slice_get}
use Rattle.ruletable.specs.Rules as table
use Rattle.pegread.specs.Pattern.{Pattern, Rule}
use Rattle.pegread.specs.PegViews.{pattern_of, rule_of}
use Rattle.pegread.specs.declared.expr.Expr.{Expr}

module _ {A : Type 0} (own : List ℕ → Pattern → List A) where
  abbrev given_by : List Rule → List A
  given_by rules = flat_map (λ (rule : Rule). own rule.name rule.body) rules

  rule-after : (rules : List (table.Rule Expr)) (id : ℕ) (name : List ℕ) (e : Expr)
      → slice_get (map (λ rule. rule.name) rules) id ≡ Some name
      → slice_get (map (λ rule. rule.body) rules) id ≡ Some e
      → given_by (take (suc id) (map rule_of rules))
      ≡ given_by (take id (map rule_of rules)) ++ own name (pattern_of e)
  rule-after [] id name e is at = absurd (cc at)
  rule-after (rule ∷ rules) zero name e is at =
      let same : rule.name ≡ name = cc is in
      let body : rule.body ≡ e = cc at in
      append-nil (own rule.name (pattern_of rule.body))
      ∙ ap (λ (n : List ℕ). own n (pattern_of rule.body)) same
      ∙ ap (λ (d : Expr). own name (pattern_of d)) body
  rule-after (rule ∷ rules) (suc id) name e is at =
      ap (λ (z : List A). own rule.name (pattern_of rule.body) ++ z) (rule-after rules id name e is at)
      ∙ sym (append_assoc (own rule.name (pattern_of rule.body))
      (given_by (take id (map rule_of rules))) (own name (pattern_of e)))

  pub rule-more : (rules : List (table.Rule Expr)) (id : ℕ) (name : List ℕ) (e : Expr) (old new : List A)
      → slice_get (map (λ rule. rule.name) rules) id ≡ Some name
      → slice_get (map (λ rule. rule.body) rules) id ≡ Some e
      → new ≡ old ++ own name (pattern_of e) → old ≡ given_by (take id (map rule_of rules))
      → new ≡ given_by (take (id + 1) (map rule_of rules))
  rule-more rules id name e old new is at more before =
      more ∙ ap (λ (z : List A). z ++ own name (pattern_of e)) before
      ∙ sym (rule-after rules id name e is at)
      ∙ ap (λ (k : ℕ). given_by (take k (map rule_of rules))) (sym (add-one id))
