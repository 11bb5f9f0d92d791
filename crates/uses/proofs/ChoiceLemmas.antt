-- The rules of a table, gone over one by one.
-- Serves: some_choice
use Rattle.std.proofs.Common.{◌≡◌, ℕ, zero, suc, ◌+◌, ◌||◌, Some, List, [], ◌∷◌, drop, slice_get, map, refl, add-one}
use Rattle.ruletable.specs.Rules as table
use Rattle.pegread.specs.declared.expr.Expr.{Expr}
use Rattle.pegread.specs.PegViews.{pattern_of, rule_of}
use Rattle.uses.specs.Choices.{is_choice, some_choice}

choice-first : (rules : List (table.Rule Expr)) (i : ℕ) (e : Expr) → slice_get (map (λ rule. rule.body) rules) i
    ≡ Some e →
    some_choice (map rule_of (drop i rules)) ≡ (is_choice (pattern_of e)
    || some_choice (map rule_of (drop (suc i) rules)))
choice-first [] i e h = cc
choice-first (rule ∷ rules) zero e h =
    let body : rule.body ≡ e = cc in
    rw (← body) refl
choice-first (rule ∷ rules) (suc i) e h = choice-first rules i e h

-- some rule from one on has a choice exactly if this one has, or one after it
pub choice-left : (rules : List (table.Rule Expr)) (i : ℕ) (e : Expr) → slice_get (map (λ rule. rule.body) rules) i
    ≡ Some e →
    some_choice (map rule_of (drop i rules)) ≡ (is_choice (pattern_of e)
    || some_choice (map rule_of (drop (i + 1) rules)))
choice-left rules i e h = rw add-one (choice-first rules i e h)
