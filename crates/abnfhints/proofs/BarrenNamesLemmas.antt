-- The names of those rules of which something holds, rule by rule.
-- Serves: abnf_hints
use Rattle.std.proofs.Common.{◌≡◌, ℕ, zero, suc, ◌+◌, ◌<◌, min, List, [], ◌∷◌, ◌++◌, length, map, take, Some, refl}
use Rattle.std.proofs.Common.{sym, ◌∙◌, ap, subst, arith}
use Rattle.std.specs.Prelude.{slice_get}
use Rattle.std.proofs.lemmas.List.{length-map, length-take-le, take_min}
use Rattle.ruletable.specs.Rules as table
use Rattle.abnfcheck.specs.AbnfNotes.{Those, no_more, this_one, not_this}
use Rattle.abnfread.specs.AbnfViews.{rule_of, rules_of}
use Rattle.abnfread.specs.Element.{Rule}
use Rattle.abnfread.specs.declared.elem.Elem.{Elem}

module _ (P : ℕ → Type 0) where
  those_push : {i : ℕ} {rules : List Rule} {names : List (List ℕ)} (rule : Rule) → Those P i rules names
      → P (i + length rules) → Those P i (rules ++ rule ∷ []) (names ++ rule.name ∷ [])
  those_push {i = i} rule no_more p = let same : i + 0 ≡ i = omega arith in this_one (subst P same p) no_more
  those_push {i = i} rule (this_one {rules = rules} h rest) p =
      let same : i + suc (length rules) ≡ suc i + length rules = omega arith in
      this_one h (those_push rule rest (subst P same p))
  those_push {i = i} rule (not_this {rules = rules} h rest) p =
      let same : i + suc (length rules) ≡ suc i + length rules = omega arith in
      not_this h (those_push rule rest (subst P same p))

  those_pass : {i : ℕ} {rules : List Rule} {names : List (List ℕ)} (rule : Rule) → Those P i rules names
      → (P (i + length rules) → ⊥) → Those P i (rules ++ rule ∷ []) names
  those_pass {i = i} rule no_more p = let same : i ≡ i + 0 = omega arith in
      not_this (λ q. p (subst P same q)) no_more
  those_pass {i = i} rule (this_one {rules = rules} h rest) p =
      let same : suc i + length rules ≡ i + suc (length rules) = omega arith in
      this_one h (those_pass rule rest (λ q. p (subst P same q)))
  those_pass {i = i} rule (not_this {rules = rules} h rest) p =
      let same : suc i + length rules ≡ i + suc (length rules) = omega arith in
      not_this h (those_pass rule rest (λ q. p (subst P same q)))

-- the rule at an id
record Taken (rules : List Rule) (id : ℕ) : Type 0 where
  pub rule : Rule
  pub is : take (id + 1) rules ≡ take id rules ++ rule ∷ []
  pub long : 0 + length (take id rules) ≡ id

one_taken : (rules : List Rule) (id : ℕ) → id < length rules → (rule : Rule)
    × (take (suc id) rules ≡ take id rules ++ rule ∷ []) × (slice_get rules id ≡ Some rule)
one_taken [] id lt = absurd (omega (arith, lt))
one_taken (rule ∷ rules) zero lt = (rule, refl, refl)
one_taken (rule ∷ rules) (suc id) lt = let t = one_taken rules id (omega (arith, lt)) in
    (t.0, ap (λ l. rule ∷ l) t.1, t.2)

taken_at : (rules : List Rule) (id : ℕ) → id < length rules → Taken rules id
taken_at rules id lt = let t = one_taken rules id lt in record {
  rule = t.0;
  is = (let e : id + 1 ≡ suc id = omega arith in ap (λ (k : ℕ). take k rules) e ∙ t.1);
  long = (let l = length-take-le id rules (omega (arith, lt)) in omega (arith, l));
}

named_at : (rules : List (table.Rule Elem)) (id : ℕ) (name : List ℕ)
    → slice_get (map (λ rule. rule.name) rules) id ≡ Some name → (lt : id < length (map rule_of rules))
    → (one_taken (map rule_of rules) id lt).0.name ≡ name
unfolding one_taken
named_at [] id name at lt = absurd (cc at)
named_at (rule ∷ rules) zero name at lt = let same : rule.name ≡ name = cc at in same
named_at (rule ∷ rules) (suc id) name at lt = named_at rules id name at (omega (arith, lt))

module _ (P : ℕ → Type 0) (rules : table.Rules Elem) (id : ℕ) (few : id < length rules.rules) where
  below_all : id < length (rules_of rules)
  below_all = let l = length-map rules.rules rule_of in omega (arith, l, few)

  pub next_named : (names : List (List ℕ)) (name : List ℕ)
      → slice_get (map (λ (rule : table.Rule Elem). rule.name) rules.rules) id ≡ Some name
      → Those P 0 (take id (rules_of rules)) names → P id
      → Those P 0 (take (id + 1) (rules_of rules)) (names ++ name ∷ [])
  unfolding taken_at one_taken
  next_named names name at those p =
      let t = taken_at (rules_of rules) id below_all in
      let named : t.rule.name ≡ name = named_at rules.rules id name at below_all in
      subst (λ v. Those P 0 (take (id + 1) (rules_of rules)) (names ++ v ∷ [])) named
      (subst (λ v. Those P 0 v (names ++ t.rule.name ∷ [])) (sym t.is)
      (those_push P t.rule those (subst P (sym t.long) p)))

  pub next_passed : (names : List (List ℕ)) → Those P 0 (take id (rules_of rules)) names → (P id → ⊥)
      → Those P 0 (take (id + 1) (rules_of rules)) names
  next_passed names those p =
      let t = taken_at (rules_of rules) id below_all in
      subst (λ v. Those P 0 v names) (sym t.is) (those_pass P t.rule those (λ q. p (subst P t.long q)))

pub all_named : (P : ℕ → Type 0) (rules : table.Rules Elem) (count id len : ℕ) (names : List (List ℕ))
    → len ≡ length rules.rules → id ≡ min len count → Those P 0 (take id (rules_of rules)) names
    → Those P 0 (take count (rules_of rules)) names
all_named P rules count id len names all is those =
    let l = length-map rules.rules rule_of in
    let turned : min len count ≡ min count (length (rules_of rules)) = omega (arith, l, all) in
    subst (λ v. Those P 0 v names) (ap (λ (k : ℕ). take k (rules_of rules)) (is ∙ turned)
    ∙ take_min count (rules_of rules))
    those
