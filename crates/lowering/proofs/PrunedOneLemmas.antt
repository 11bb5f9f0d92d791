-- One list of rules is left of rules without what derives nothing.
-- Serves: items_decide.
use Rattle.std.proofs.Common.{◌≡◌, ℕ, suc, List, [], ◌∷◌, length, map, Some, Bool, refl, sym, ◌∙◌, ap, arith}
use Rattle.std.specs.Prelude.{slice_get}
use Rattle.std.proofs.lemmas.List.{length-map}
use Rattle.abnfread.specs.Element as e
use Rattle.abnfread.specs.Element.{Element, Elements, more, Rule, bodies}
use Rattle.flatgrammar.proofs.SliceGetLemmas.{get_below, get_there}
use Rattle.lowering.specs.Pruned.{ArePruned, IsLeftBody, Keeps, KeepsAll, KeepsSome, dropped, empty_opt, empty_rep}
use Rattle.lowering.specs.Pruned.{kept, keep_alt, keep_concat, keep_more, keep_name, keep_none, keep_opt, keep_range}
use Rattle.lowering.specs.Pruned.{keep_rep, keep_text, keep_values, left_body, no_body, some_none}
use Rattle.lowering.proofs.KeepsLemmas.{keeps_productive}

module _ (has : ℕ → Bool) (rules : List Rule) where
  mutual
    keeps_one : {el d c : Element} → Keeps has rules el d → Keeps has rules el c → d ≡ c
    keeps_one (keep_text a) (keep_text b) = refl
    keeps_one (keep_values a) (keep_values b) = refl
    keeps_one (keep_range a) (keep_range b) = refl
    keeps_one (keep_concat a) (keep_concat b) = ap (λ v. e.Concat v) (all_one a b)
    keeps_one (keep_alt p a) (keep_alt q b) = ap (λ v. e.Alt v) (some_one a b)
    keeps_one (keep_rep {a = a} {b = b} within k) (keep_rep within' l) = ap (λ v. e.Rep a b v) (keeps_one k l)
    keeps_one (keep_rep within k) (empty_rep not) = absurd (not (keeps_productive has rules k))
    keeps_one (empty_rep not) (keep_rep within k) = absurd (not (keeps_productive has rules k))
    keeps_one (empty_rep not) (empty_rep none) = refl
    keeps_one (keep_opt k) (keep_opt l) = ap (λ v. e.Opt v) (keeps_one k l)
    keeps_one (keep_opt k) (empty_opt not) = absurd (not (keeps_productive has rules k))
    keeps_one (empty_opt not) (keep_opt k) = absurd (not (keeps_productive has rules k))
    keeps_one (empty_opt not) (empty_opt none) = refl
    keeps_one (keep_name p) (keep_name q) = refl

    all_one : {es ds cs : Elements} → KeepsAll has rules es ds → KeepsAll has rules es cs → ds ≡ cs
    all_one keep_none keep_none = refl
    all_one (keep_more k ks) (keep_more l ls) =
        let first = keeps_one k l in let rest = all_one ks ls in (λ i. more (first i) (rest i))

    some_one : {es ds cs : Elements} → KeepsSome has rules es ds → KeepsSome has rules es cs → ds ≡ cs
    some_one some_none some_none = refl
    some_one (kept k ks) (kept l ls) =
        let first = keeps_one k l in let rest = some_one ks ls in (λ i. more (first i) (rest i))
    some_one (kept k ks) (dropped not ls) = absurd (not (keeps_productive has rules k))
    some_one (dropped not ks) (kept l ls) = absurd (not (keeps_productive has rules l))
    some_one (dropped not ks) (dropped none ls) = some_one ks ls

  body_one : {el d c : Element} → IsLeftBody has rules el d → IsLeftBody has rules el c → d ≡ c
  body_one (left_body k) (left_body l) = keeps_one k l
  body_one (left_body k) (no_body not) = absurd (not (keeps_productive has rules k))
  body_one (no_body not) (left_body k) = absurd (not (keeps_productive has rules k))
  body_one (no_body not) (no_body none) = refl

same_list : {A : Type 0} (xs ys : List A) → length xs ≡ length ys → ((k : ℕ) (a b : A) → slice_get xs k ≡ Some a
    → slice_get ys k ≡ Some b → a ≡ b) → xs ≡ ys
same_list [] [] long each = refl
same_list [] (y ∷ ys) long each = absurd (omega (arith, long))
same_list (x ∷ xs) [] long each = absurd (omega (arith, long))
same_list (x ∷ xs) (y ∷ ys) long each =
    let first = each 0 x y refl refl in
    let rest = same_list xs ys (omega (arith, long)) (λ k a b. each (suc k) a b) in
    (λ i. first i ∷ rest i)

same_rules : (xs ys : List Rule) → map (λ rule. rule.name) xs ≡ map (λ rule. rule.name) ys
    → map (λ rule. rule.span) xs ≡ map (λ rule. rule.span) ys → bodies xs ≡ bodies ys → xs ≡ ys
same_rules [] [] names spans all = refl
same_rules [] (y ∷ ys) names spans all = absurd (cc names)
same_rules (x ∷ xs) [] names spans all = absurd (cc names)
same_rules (x ∷ xs) (y ∷ ys) names spans all =
    let name : x.name ≡ y.name = cc names in
    let span : x.span ≡ y.span = cc spans in
    let body : x.body ≡ y.body = cc all in
    let rest = same_rules xs ys (cc names) (cc spans) (cc all) in
    (λ i. record { name = name i; body = body i; span = span i } ∷ rest i)

pub pruned_one : (has : ℕ → Bool) (rules a b : List Rule) → ArePruned has rules a → ArePruned has rules b → a ≡ b
pruned_one has rules a b p q =
    same_rules a b (p.names ∙ sym q.names) (p.spans ∙ sym q.spans)
    (same_list (bodies a) (bodies b) (omega (arith, long_a, long_b, p.count, q.count)) each)
  where
    long_a : length (bodies a) ≡ length a
    long_a = length-map a (λ rule. rule.body)

    long_b : length (bodies b) ≡ length b
    long_b = length-map b (λ rule. rule.body)

    each : (k : ℕ) (d c : Element) → slice_get (bodies a) k ≡ Some d → slice_get (bodies b) k ≡ Some c → d ≡ c
    each k d c is at =
        let lt = get_below (bodies a) k is in
        let long = length-map rules (λ rule. rule.body) in
        let count = p.count in
        let first = long_a in
        let body = get_there (bodies rules) k (omega (arith, lt, long, count, first)) in
        body_one has rules (p.left_of k body.0 d body.1 is) (q.left_of k body.0 c body.1 at)
