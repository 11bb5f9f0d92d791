-- The rule of a node, where the numbers of the rules' bodies ascend.
-- Serves: explain_no_match
use Rattle.std.proofs.Common.{◌≡◌, ℕ, zero, suc, ◌+◌, ◌<◌, ◌≤◌, inl, inr, ◌∙◌, List, [], ◌∷◌, refl}
use Rattle.std.proofs.Common.{length, sym, ap, arith, slice_get, map, Some}
use Rattle.std.proofs.lemmas.Bool.{cases_lt}
use Rattle.std.proofs.lemmas.List.{length-map}
use Rattle.gramcheck.specs.Grammar.{Grammar, IsNumbered}
use Rattle.pegread.specs.PegViews.{rules_of}
use Rattle.pegread.specs.Pattern as e
use Rattle.pegread.specs.Pattern.{Pattern, Rule}
use Rattle.pegnodes.specs.NodeCounts.{node_count}
use Rattle.pegnodes.specs.NodeLists.{bodies_of_rules}
use Rattle.pegread.specs.PegViews.{rule_of}
use Rattle.pegread.specs.declared.expr.Expr.{Expr}
use Rattle.ruletable.specs.Rules as table
use Rattle.matchfailure.specs.NodeTexts.{name_of_rule, rule_of_node}

count-positive : (p : Pattern) → 0 < node_count p
count-positive e.Any = omega arith
count-positive (e.Bytes bs) = omega arith
count-positive (e.Set s) = omega arith
count-positive (e.Name n) = omega arith
count-positive (e.Seq ps) = omega arith
count-positive (e.Choice ps) = omega arith
count-positive (e.Star p) = omega arith
count-positive (e.Plus p) = omega arith
count-positive (e.Opt p) = omega arith
count-positive (e.And p) = omega arith
count-positive (e.Not p) = omega arith
count-positive (e.Act t) = omega arith
count-positive e.Open = omega arith
count-positive e.Close = omega arith

some-is : {x y : ℕ} → Some x ≡ Some y → x ≡ y
some-is h = cc

bodies-from : (rules : List Rule) (first i m : ℕ) → slice_get (bodies_of_rules first rules) i ≡ Some m → first ≤ m
bodies-from [] first i m at = absurd (cc at)
bodies-from (r ∷ rules) first zero m at =
    let some = count-positive r.body in
    let is = some-is at in
    omega (arith, some, is)
bodies-from (r ∷ rules) first (suc i) m at =
    let later = bodies-from rules (first + node_count r.body) i m at in omega (arith, later)

-- a later body has a greater number
pub bodies-ascend : (rules : List Rule) (first i j m n : ℕ) → i < j → slice_get (bodies_of_rules first rules) i ≡ Some m
    → slice_get (bodies_of_rules first rules) j ≡ Some n → m < n
bodies-ascend [] first i j m n less at there = absurd (cc at)
bodies-ascend (r ∷ rules) first i zero m n less at there = absurd (omega (arith, less))
bodies-ascend (r ∷ rules) first zero (suc j) m n less at there =
    let some = count-positive r.body in
    let is = some-is at in
    let later = bodies-from rules (first + node_count r.body) j n there in
    omega (arith, some, is, later)
bodies-ascend (r ∷ rules) first (suc i) (suc j) m n less at there =
    bodies-ascend rules (first + node_count r.body) i j m n (omega (arith, less)) at there

pub body-after : (g : Grammar) → IsNumbered g → (i j m n : ℕ) → i < j → slice_get g.bodies i ≡ Some m
    → slice_get g.bodies j ≡ Some n → m < n
body-after g numbered i j m n less at there =
    let same = sym numbered.bodies_are in
    bodies-ascend (rules_of g.rules) 0 i j m n less (ap (λ (bs : List ℕ). slice_get bs i) same ∙ at)
    (ap (λ (bs : List ℕ). slice_get bs j) same ∙ there)

-- the bodies before that of rule id have smaller numbers than the node
abbrev pub AreBefore : List ℕ → ℕ → ℕ → Type 0
AreBefore bodies id n = (j m : ℕ) → j < id → slice_get bodies j ≡ Some m → m < n

-- those from it on do not
abbrev pub AreFrom : List ℕ → ℕ → ℕ → Type 0
AreFrom bodies id n = (j m : ℕ) → id ≤ j → slice_get bodies j ≡ Some m → n ≤ m

rule-below : (body : ℕ) (bodies : List ℕ) (n : ℕ) → body < n
    → rule_of_node (body ∷ bodies) n ≡ suc (rule_of_node bodies n)
rule-below body bodies n less = grind (arith, less)

rule-here : (body : ℕ) (bodies : List ℕ) (n : ℕ) → n ≤ body → rule_of_node (body ∷ bodies) n ≡ 0
rule-here body bodies n le = grind (arith, le)

-- the first body whose number is not less than the node's
pub rule-is : (bodies : List ℕ) (n id : ℕ) → id ≤ length bodies → AreBefore bodies id n → AreFrom bodies id n
    → id ≡ rule_of_node bodies n
rule-is [] n id few before from = omega (arith, few)
rule-is (b ∷ bodies) n zero few before from = sym (rule-here b bodies n (from 0 b (omega arith) refl))
rule-is (b ∷ bodies) n (suc id) few before from =
    let rest = rule-is bodies n id (omega (arith, few)) (λ j m less at. before (suc j) m (omega (arith, less)) at)
    (λ j m le at. from (suc j) m (omega (arith, le)) at) in
    ap suc rest ∙ sym (rule-below b bodies n (before 0 b (omega arith) refl))

-- the search goes on in the later half, or in the earlier one
pub before-half : (rules : List Rule) (mid n m : ℕ) → slice_get (bodies_of_rules 0 rules) mid ≡ Some m → m < n
    → AreBefore (bodies_of_rules 0 rules) (mid + 1) n
before-half rules mid n m at less j k low there = elim (cases_lt j mid) [
  | inl before ↦ let up = bodies-ascend rules 0 j mid k m before there at in omega (arith, up, less)
  | inr from ↦ let is : j ≡ mid = omega (arith, low, from) in
      let same = some-is (sym there ∙ ap (slice_get (bodies_of_rules 0 rules)) is ∙ at) in omega (arith, same, less)
]

pub from-half : (rules : List Rule) (mid n m : ℕ) → slice_get (bodies_of_rules 0 rules) mid ≡ Some m → n ≤ m
    → AreFrom (bodies_of_rules 0 rules) mid n
from-half rules mid n m at le j k low there = elim (cases_lt mid j) [
  | inl after ↦ let up = bodies-ascend rules 0 mid j m k after at there in omega (arith, up, le)
  | inr not ↦ let is : j ≡ mid = omega (arith, low, not) in
      let same = some-is (sym there ∙ ap (slice_get (bodies_of_rules 0 rules)) is ∙ at) in omega (arith, same, le)
]

-- the name of a rule, by its number
pub name-is : (rules : List (table.Rule Expr)) (id : ℕ) (name : List ℕ)
    → slice_get (map (λ r. r.name) rules) id ≡ Some name → name ≡ name_of_rule (map rule_of rules) id
name-is [] id name at = absurd (cc at)
name-is (r ∷ rules) zero name at = cc at
name-is (r ∷ rules) (suc id) name at = name-is rules id name at

pub no-name : (rules : List (table.Rule Expr)) (id : ℕ) → length rules ≤ id → [] ≡ name_of_rule (map rule_of rules) id
no-name [] id past = refl
no-name (r ∷ rules) zero past = absurd (omega (arith, past))
no-name (r ∷ rules) (suc id) past = no-name rules id (omega (arith, past))

-- each rule has a body
pub count-bodies : (rules : List Rule) (first : ℕ) → length (bodies_of_rules first rules) ≡ length rules
count-bodies [] first = refl
count-bodies (r ∷ rules) first = ap suc (count-bodies rules (first + node_count r.body))

pub count-is : (rules : table.Rules Expr) → length (rules_of rules) ≡ length rules.rules
count-is rules = length-map rules.rules rule_of
