-- The ids of names, in whatever case.
-- Serves: nullable_rules, lower, items_decide
use Rattle.std.proofs.Common.{◌≡◌, ℕ, ◌+◌, ◌≤◌, Bool, true, false, cond, nat_lt, List, [], ◌∷◌, length, map, Option}
use Rattle.std.proofs.Common.{Some, None, refl, sym, ◌∙◌, arith, add-one}
use Rattle.std.specs.Prelude.{slice_get, unwrap_or}
use Rattle.std.specs.List.{position_or_len}
use Rattle.std.proofs.lemmas.Bool.Decides.{nat_tests}
use Rattle.std.proofs.lemmas.List.Recursion.{is_position_or_len}
use Rattle.std.proofs.lemmas.List.Sums.{prefix_len-le-length}
use Rattle.ruletable.specs.Rules as table
use Rattle.ruletable.specs.Rules.{find_in, same_name}
use Rattle.ruletable.specs.declared.table.NameCase.TheVariants.{Fold}
use Rattle.abnfread.specs.declared.elem.Elem.{Elem}
use Rattle.abnfread.specs.Element.{Element, Rule, bodies, body_of, id_of}
use Rattle.abnfread.specs.AbnfViews.{rule_of, rules_of}

first_id : (rules : List (table.Rule Elem)) (name : List ℕ) → id_of (map rule_of rules) name ≡ position_or_len
    (λ rule. same_name Fold name rule.name) rules
first_id rules name =
    is_position_or_len (λ rs. id_of (map rule_of rs) name) (λ rule. same_name Fold name rule.name) refl
    (λ rule rs. step (same_name Fold name rule.name) (id_of (map rule_of rs) name)) rules
  where
    step : (b : Bool) (k : ℕ) → cond b 0 (k + 1) ≡ cond b 0 (1 + k)
    step true k = refl
    step false k = omega arith

-- a position, or the length where there is none
position_or : (b : Bool) (k n : ℕ) → (b ≡ false → k ≡ n) → unwrap_or (cond b (Some k) None) n ≡ k
position_or true k n h = refl
position_or false k n h = sym (h refl)

pub id_found : (rules : table.Rules Elem) (name : List ℕ) (found : Option ℕ) (count : ℕ) → rules.names ≡ Fold
    → found ≡ find_in rules name → count ≡ length rules.rules →
    unwrap_or found count ≡ id_of (rules_of rules) name
id_found rules name found count folds is all =
    let first = position_or_len (λ rule. same_name Fold name rule.name) rules.rules in
    let most : first ≤ length rules.rules = prefix_len-le-length _ rules.rules in
    rw (is, all, folds) (position_or (nat_lt first (length rules.rules)) first (length rules.rules)
    (λ past. grind (arith, nat_tests)) ∙ sym (first_id rules.rules name))

-- the body of a name stands at its id
pub body_at_id : (rules : List Rule) (name : List ℕ) → body_of rules name ≡ slice_get (bodies rules) (id_of rules name)
body_at_id [] name = refl
body_at_id (rule ∷ rules) name = here_or_later (same_name Fold name rule.name) rule.body (bodies rules)
    (id_of rules name) (body_of rules name) (body_at_id rules name)
  where
    here_or_later : (b : Bool) (body : Element) (rest : List Element) (k : ℕ) (later : Option Element)
        → later ≡ slice_get rest k →
        cond b (Some body) later ≡ slice_get (body ∷ rest) (cond b 0 (k + 1))
    here_or_later true body rest k later h = refl
    here_or_later false body rest k later h = rw add-one h
