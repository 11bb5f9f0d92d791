-- The line of a step between two rules of a table.
-- Serves: push_steps
use Rattle.std.proofs.Common.{◌≡◌, ℕ, Bool, true, List, [], ◌∷◌, Option, Some, None, length, refl, sym, ap, ◌∙◌}
use Rattle.std.proofs.Common.{◌++◌, ◌-◌, suc, subst, append_assoc}
use Rattle.std.specs.Prelude.{option_map, slice_get, slice_index_or}
use Rattle.std.proofs.lemmas.Option.{slice_get-map}
use Rattle.ruletable.specs.Rules as table
use Rattle.pegread.specs.Pattern.{Pattern, Rule}
use Rattle.pegread.specs.PegViews.{pattern_of, rule_of, rules_of}
use Rattle.pegread.specs.declared.expr.Expr.{Expr}
use Rattle.pegnodes.proofs.PushCasesLemmas.{mapped_from}
use Rattle.pegexplain.specs.LeftLines.{is_left_use, line_of_first, skipped_if, step_between, step_line, step_reported}
use Rattle.pegexplain.specs.LeftLines.{steps_reported}
use Rattle.pegexplain.specs.LeftUses.{NameUse, skipped_in, uses_in}

-- where no line is left
pub no-line-left : (passes : NameUse → Bool) (us : List NameUse) (lines : List ℕ) → length lines ≡ 0
    → line_of_first passes us lines ≡ None
no-line-left passes [] lines e = refl
no-line-left passes (u ∷ us) [] e = refl
no-line-left passes (u ∷ us) (line ∷ lines) e = absurd (cc e)

module _ (null : Pattern → Bool) (lines : List ℕ → List ℕ) where
  rules-reported : (r s : table.Rule Expr) (own name : List ℕ) (body : Expr) → r.name ≡ own → s.name ≡ name → r.body
      ≡ body
      → step_line (line_of_first (is_left_use name) (uses_in null true (pattern_of body)) (lines own)) own name
      (skipped_if (skipped_in null name (pattern_of body))) ≡ step_reported null lines (rule_of r) (rule_of s)
  rules-reported r s own name body e f d = rw (← e, ← f, ← d) refl

module _ (rules : table.Rules Expr) (null : Pattern → Bool) (lines : List ℕ → List ℕ) where
  rule-there : (id : ℕ) (r : table.Rule Expr) → slice_get rules.rules id ≡ Some r
      → slice_get (rules_of rules) id ≡ Some (rule_of r)
  rule-there id r at = slice_get-map rule_of rules.rules id ∙ ap (option_map rule_of) at

  pub step-known : (from to : ℕ) (own name : List ℕ) (body : Expr) → slice_get (table.names_of rules) from ≡ Some own
      → slice_get (table.bodies_of rules) from ≡ Some body → slice_get (table.names_of rules) to ≡ Some name
      → step_line (line_of_first (is_left_use name) (uses_in null true (pattern_of body)) (lines own)) own name
      (skipped_if (skipped_in null name (pattern_of body)))
      ≡ step_between null lines (slice_get (rules_of rules) from) (slice_get (rules_of rules) to)
  step-known from to own name body g h k =
      let a = mapped_from (λ (r : table.Rule Expr). r.name) rules.rules from own g in
      let b = mapped_from (λ (r : table.Rule Expr). r.name) rules.rules to name k in
      let there : Some a.0.body ≡ Some body =
      sym (ap (option_map (λ (r : table.Rule Expr). r.body)) a.1)
      ∙ (sym (slice_get-map (λ (r : table.Rule Expr). r.body) rules.rules from) ∙ h) in
      let same : a.0.body ≡ body = cc there in
      rules-reported null lines a.0 b.0 own name body a.2 b.2 same
      ∙ sym (ap (λ (x : Option Rule). step_between null lines x (slice_get (rules_of rules) to))
      (rule-there from a.0 a.1)
      ∙ ap (λ (y : Option Rule). step_between null lines (Some (rule_of a.0)) y) (rule-there to b.0 b.1))

module _ (rules : List Rule) (null : Pattern → Bool) (lines : List ℕ → List ℕ) where
  -- one step more
  pub steps-next : (first budget id next : ℕ) (ids a b o : List ℕ) → budget ≡ suc (budget - 1)
      → next ≡ slice_index_or ids 0 first → a ≡ o ++ step_between null lines (slice_get rules id) (slice_get rules next)
      → b ≡ a ++ steps_reported rules null lines first (budget - 1) ids
      → b ≡ o ++ steps_reported rules null lines first budget (id ∷ ids)
  steps-next first budget id next ids a b o some n e f =
      subst (λ (k : ℕ). b ≡ o ++ steps_reported rules null lines first k (id ∷ ids)) (sym some)
      (f ∙ ap (λ (z : List ℕ). z ++ steps_reported rules null lines first (budget - 1) ids)
      (e ∙ ap (λ (k : ℕ). o ++ step_between null lines (slice_get rules id) (slice_get rules k)) n)
      ∙ append_assoc o _ _)
