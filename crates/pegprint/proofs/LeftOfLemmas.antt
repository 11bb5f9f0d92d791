-- What is left of a canonical text, from an item or a rule on.
-- Serves: print_peg
use Rattle.std.proofs.Common.{◌≡◌, ℕ, ◌+◌, ◌≤◌, ◌<◌, ◌==◌, cond, Bool, true, false, Option, Some, List, [], ◌∷◌, ◌++◌}
use Rattle.std.proofs.Common.{length, drop, get_or, slice_get, map, refl, ◌∙◌, ap, add-one, drop-cons}
use Rattle.std.proofs.lemmas.List.{drop_all}
use Rattle.std.specs.List.{flat_map}
use Rattle.ruletable.specs.Rules as table
use Rattle.ruletable.proofs.LeavesLemmas as left
use Rattle.ruletable.proofs.LeavesLemmas.{Leaves, leaves-all, from-item, marked-left, same-left}
use Rattle.pegread.specs.declared.expr.Expr.{Expr}
use Rattle.pegprint.specs.declared.position.Context.{Context}
use Rattle.pegprint.specs.Brackets.{around, wraps}
use Rattle.pegprint.specs.Canon.{text_of, joined, more_joined, definition_text, grammar_text}
use Rattle.pegread.specs.Pattern.{Patterns}
use Rattle.pegread.specs.PegViews.{pattern_of, patterns_of, rule_of}

pub leaves-around : (a : Option (List ℕ)) (b : Bool) (s : List ℕ) → b ≡ true
    → Leaves a a (around b s) ((40 ∷ []) ++ (s ++ 41 ∷ []))
leaves-around a true s h = leaves-all a _
leaves-around a false s h = cc

-- what is left of a text by items
pub map-left : {A : Type 0} (f : A → List ℕ) (xs : List A) (i : ℕ) (d : A) → i < length xs
    → flat_map f (drop i xs) ≡ f (get_or xs i d) ++ flat_map f (drop (i + 1) xs)
map-left f xs i d h = rw (add-one, drop-cons xs i d) refl

pub map-end : {A : Type 0} (f : A → List ℕ) (xs : List A) (i : ℕ) → length xs ≤ i → flat_map f (drop i xs) ≡ []
map-end f xs i h = ap (λ ys. flat_map f ys) (drop_all i xs h)

-- what is left of members or alternatives, from one on
abbrev pub left_of : Context → List ℕ → ℕ → Patterns → List ℕ
left_of p mark i es = cond (i == 0) (joined p mark es) (more_joined p mark es)

pub item-left : (p : Context) (mark : List ℕ) (es : List Expr) (i : ℕ) (e : Expr) → e ≡ get_or es i e → i < length es →
    left_of p mark i (patterns_of (drop i es)) ≡ cond (i == 0) [] mark
    ++ (around (wraps p (pattern_of e)) (text_of (pattern_of e))
    ++ left_of p mark (i + 1) (patterns_of (drop (i + 1) es)))
item-left p mark es i e same h =
    let rest = patterns_of (drop (i + 1) es) in
    ap (λ (ys : List Expr). left_of p mark i (patterns_of ys)) (from-item es i e same h)
    ∙ marked-left i mark (around (wraps p (pattern_of e)) (text_of (pattern_of e))) (joined p mark rest)
    (more_joined p mark rest)

pub end-left : (p : Context) (mark : List ℕ) (es : List Expr) (i : ℕ) → length es ≤ i
    → left_of p mark i (patterns_of (drop i es)) ≡ []
end-left p mark es i h = ap (λ (ys : List Expr). left_of p mark i (patterns_of ys)) (drop_all i es h)
    ∙ same-left (i == 0) []

-- what is left of a table's text, from one rule on
pub rule-left : (rules : List (table.Rule Expr)) (i : ℕ) (n : List ℕ) (e : Expr) →
    slice_get (map (λ rule. rule.name) rules) i ≡ Some n → slice_get (map (λ rule. rule.body) rules) i ≡ Some e →
    grammar_text (map rule_of (drop i rules)) ≡ definition_text n (pattern_of e)
    ++ grammar_text (map rule_of (drop (i + 1) rules))
rule-left = left.rule-left (λ rules. grammar_text (map rule_of rules)) (λ n e. definition_text n (pattern_of e))
    (λ rule rules. refl)

pub rules-end : (rules : List (table.Rule Expr)) (i : ℕ) → length rules ≤ i → grammar_text (map rule_of (drop i rules))
    ≡ []
rules-end rules i h = ap (λ (ys : List (table.Rule Expr)). grammar_text (map rule_of ys)) (drop_all i rules h)
