-- The ids of names, and the bodies of their rules.
-- Serves: check_peg, exactly_one_outcome, some_outcome
use Rattle.std.proofs.Common.{add-one, get_or, ◌≡◌, ℕ, suc, ◌+◌, ◌<◌, ◌≤◌, Bool, true, false, cond, nat_lt, List, []}
use Rattle.std.proofs.Common.{◌∷◌, length, map, Option, Some, None, refl, sym, subst, ◌∙◌, arith}
use Rattle.std.specs.Prelude.{bytes_eq, slice_get, unwrap_or}
use Rattle.std.specs.List.{position_or_len}
use Rattle.std.proofs.lemmas.Bool.Decides.{same_from_decides, nat_tests}
use Rattle.std.proofs.lemmas.List.Recursion.{is_position_or_len}
use Rattle.std.proofs.lemmas.List.Sums.{prefix_len-le-length}
use Rattle.std.proofs.lemmas.Slice.Eq.{bytes_eq-Decides}
use Rattle.ruletable.specs.Rules as table
use Rattle.ruletable.specs.Rules.{find_in, HasUniqueNames}
use Rattle.ruletable.specs.declared.table.NameCase.TheVariants.{Exact}
use Rattle.std.proofs.lemmas.List.{length-map}
use Rattle.std.proofs.lemmas.Option.{slice_get-get_or}
use Rattle.pegread.specs.Pattern as expr
use Rattle.pegread.specs.Pattern.{Pattern, Rule, body_of}
use Rattle.pegread.specs.PegViews.{rule_of, rules_of}
use Rattle.pegread.specs.declared.expr.Expr.{Expr}
use Rattle.pegnodes.specs.Nodes.{id_of}
use Rattle.pegnodes.proofs.PushCasesLemmas.{mapped_from}

bytes_eq_comm : (xs ys : List ℕ) → bytes_eq xs ys ≡ bytes_eq ys xs
bytes_eq_comm xs ys =
    let back = bytes_eq-Decides ys xs in
    same_from_decides (bytes_eq xs ys) (bytes_eq ys xs) (bytes_eq-Decides xs ys)
    (λ h. sym (back.0 h), λ e. back.1 (sym e))

first_id : (rules : List (table.Rule Expr)) (name : List ℕ) → id_of (map rule_of rules) name ≡ position_or_len
    (λ rule. bytes_eq name rule.name) rules
first_id rules name =
    is_position_or_len (λ rs. id_of (map rule_of rs) name) (λ rule. bytes_eq name rule.name) refl
    (λ rule rs. rw (bytes_eq_comm rule.name name) (step (bytes_eq name rule.name) (id_of (map rule_of rs) name))) rules
  where
    step : (b : Bool) (k : ℕ) → cond b 0 (k + 1) ≡ cond b 0 (1 + k)
    step true k = refl
    step false k = omega arith

-- a position, or the length where there is none
position_or : (b : Bool) (k n : ℕ) → (b ≡ false → k ≡ n) → unwrap_or (cond b (Some k) None) n ≡ k
position_or true k n h = refl
position_or false k n h = sym (h refl)

pub id_found : (rules : table.Rules Expr) (name : List ℕ) (found : Option ℕ) (count : ℕ) → rules.names ≡ Exact
    → found ≡ find_in rules name → count ≡ length rules.rules →
    unwrap_or found count ≡ id_of (rules_of rules) name
id_found rules name found count exact is all =
    let first = position_or_len (λ rule. bytes_eq name rule.name) rules.rules in
    let most : first ≤ length rules.rules = prefix_len-le-length _ rules.rules in
    rw (is, all, exact) (position_or (nat_lt first (length rules.rules)) first (length rules.rules)
    (λ past. grind (arith, nat_tests)) ∙ sym (first_id rules.rules name))

pub id_most : (rules : List Rule) (name : List ℕ) → id_of rules name ≤ length rules
id_most [] name = omega arith
id_most (rule ∷ rules) name = step (bytes_eq rule.name name) (id_of rules name) (length rules) (id_most rules name)
  where
    step : (b : Bool) (k n : ℕ) → k ≤ n → cond b 0 (k + 1) ≤ suc n
    step true k n le = omega arith
    step false k n le = omega arith

-- the body of a name stands at its id
pub body_at_id : (rules : List Rule) (name : List ℕ) → body_of rules name ≡ slice_get (map (λ rule. rule.body) rules)
    (id_of rules name)
body_at_id [] name = refl
body_at_id (rule ∷ rules) name =
    here_or_later (bytes_eq rule.name name) rule.body (map (λ rule. rule.body) rules) (id_of rules name)
    (body_of rules name) (body_at_id rules name)
  where
    here_or_later : (b : Bool) (body : Pattern) (bodies : List Pattern) (k : ℕ) (later : Option Pattern)
        → later ≡ slice_get bodies k →
        cond b (Some body) later ≡ slice_get (body ∷ bodies) (cond b 0 (k + 1))
    here_or_later true body bodies k later h = refl
    here_or_later false body bodies k later h = rw add-one h

-- a name that is defined has its rule's body at its id
pub body_there : (rules : List Rule) (name : List ℕ) → id_of rules name < length rules →
    (e : Pattern) × (body_of rules name ≡ Some e) × (slice_get (map (λ rule. rule.body) rules) (id_of rules name)
    ≡ Some e)
body_there rules name lt =
    let at = slice_get-get_or (map (λ rule. rule.body) rules) (id_of rules name) expr.Any
    (omega (arith, lt, length-map rules (λ rule. rule.body))) in
    (get_or (map (λ rule. rule.body) rules) (id_of rules name) expr.Any, body_at_id rules name ∙ at, at)

-- where no two rules have one name, each has the id of its name
pub own_id : (rules : table.Rules Expr) → rules.names ≡ Exact → HasUniqueNames rules → (id : ℕ) (rule : Rule)
    → slice_get (rules_of rules) id ≡ Some rule →
    id_of (rules_of rules) rule.name ≡ id
own_id rules exact unique id rule at =
    let from = mapped_from rule_of rules.rules id rule at in
    let found = id_found rules from.0.name (Some id) (length rules.rules) exact (sym (unique.own id from.0 from.1))
    refl in
    subst (λ (r : Rule). id_of (rules_of rules) r.name ≡ id) from.2 (sym found)
