-- What is left of a canonical text, from an item, a value or a rule on.
-- Serves: print_abnf
use Rattle.std.proofs.Common.{◌≡◌, ℕ, ◌+◌, ◌≤◌, ◌<◌, ◌==◌, cond, Bool, true, false, Some, List, [], ◌∷◌, ◌++◌}
use Rattle.std.proofs.Common.{length, drop, get_or, slice_get, map, refl, ◌∙◌, ap, add-one, drop-cons}
use Rattle.std.proofs.lemmas.List.{drop_all}
use Rattle.ruletable.specs.Rules as table
use Rattle.ruletable.proofs.LeavesLemmas as left
use Rattle.ruletable.proofs.LeavesLemmas.{from-item, later-left, marked-left, same-left}
use Rattle.abnfread.specs.declared.elem.Elem.{Elem}
use Rattle.abnfread.specs.Element.{Elements}
use Rattle.abnfread.specs.AbnfViews.{element_of, elements_of, rule_of}
use Rattle.abnfprint.specs.CanonicalAbnf.{around, wraps, text_of, joined, more_joined, definition_text, grammar_text}
use Rattle.abnfprint.specs.CanonicalAbnf.{hexadecimal, values_text, dotted}
use Rattle.abnfprint.specs.declared.position.Context.{Context}

-- what is left of members or alternatives, from one on
abbrev pub left_of : Context → List ℕ → ℕ → Elements → List ℕ
left_of p mark i xs = cond (i == 0) (joined p mark xs) (more_joined p mark xs)

pub item-left : (p : Context) (mark : List ℕ) (es : List Elem) (i : ℕ) (e : Elem) → e ≡ get_or es i e → i < length es →
    left_of p mark i (elements_of (drop i es)) ≡ cond (i == 0) [] mark
    ++ (around (wraps p (element_of e)) (text_of (element_of e))
    ++ left_of p mark (i + 1) (elements_of (drop (i + 1) es)))
item-left p mark es i e same h =
    let rest = elements_of (drop (i + 1) es) in
    ap (λ (ys : List Elem). left_of p mark i (elements_of ys)) (from-item es i e same h)
    ∙ marked-left i mark (around (wraps p (element_of e)) (text_of (element_of e))) (joined p mark rest)
    (more_joined p mark rest)

pub end-left : (p : Context) (mark : List ℕ) (es : List Elem) (i : ℕ) → length es ≤ i
    → left_of p mark i (elements_of (drop i es)) ≡ []
end-left p mark es i h = ap (λ (ys : List Elem). left_of p mark i (elements_of ys)) (drop_all i es h)
    ∙ same-left (i == 0) []

-- what is left of values, from one on
abbrev pub values_left : ℕ → List ℕ → List ℕ
values_left i vs = cond (i == 0) (values_text vs) (dotted vs)

more-values : (b : Bool) (v : ℕ) (vs : List ℕ) → cond b (values_text (v ∷ vs)) (dotted (v ∷ vs))
    ≡ (cond b [] (46 ∷ []) ++ hexadecimal v) ++ dotted vs
more-values true v vs = refl
more-values false v vs = refl

pub value-left : (vs : List ℕ) (i d : ℕ) → i < length vs → values_left i (drop i vs)
    ≡ (cond (i == 0) [] (46 ∷ []) ++ hexadecimal (get_or vs i d)) ++ values_left (i + 1) (drop (i + 1) vs)
value-left vs i d h =
    let rest = drop (i + 1) vs in
    let v = get_or vs i d in
    let first : drop i vs ≡ v ∷ rest = rw (add-one, drop-cons vs i d) refl in
    ap (values_left i) first ∙ more-values (i == 0) v rest
    ∙ ap (λ (w : List ℕ). (cond (i == 0) [] (46 ∷ []) ++ hexadecimal v) ++ w)
    (later-left i ((i + 1) == 0) (values_text rest) (dotted rest) refl)

pub values-end : (vs : List ℕ) (i : ℕ) → length vs ≤ i → values_left i (drop i vs) ≡ []
values-end vs i h = ap (values_left i) (drop_all i vs h) ∙ same-left (i == 0) []

-- what is left of a table's text, from one rule on
pub rule-left : (rules : List (table.Rule Elem)) (i : ℕ) (n : List ℕ) (e : Elem) →
    slice_get (map (λ rule. rule.name) rules) i ≡ Some n → slice_get (map (λ rule. rule.body) rules) i ≡ Some e →
    grammar_text (map rule_of (drop i rules)) ≡ definition_text n (element_of e)
    ++ grammar_text (map rule_of (drop (i + 1) rules))
rule-left = left.rule-left (λ rules. grammar_text (map rule_of rules)) (λ n e. definition_text n (element_of e))
    (λ rule rules. refl)

pub rules-end : (rules : List (table.Rule Elem)) (i : ℕ) → length rules ≤ i → grammar_text (map rule_of (drop i rules))
    ≡ []
rules-end rules i h = ap (λ (ys : List (table.Rule Elem)). grammar_text (map rule_of ys)) (drop_all i rules h)
