-- A table of the same names with what is left of the bodies, rule by rule.
-- Serves: abnf_hints
use Rattle.std.proofs.Common.{◌≡◌, ℕ, zero, suc, ◌+◌, ◌≤◌, List, [], ◌∷◌, ◌++◌, length, map, take, Some, sym, ◌∙◌}
use Rattle.std.proofs.Common.{ap, subst, arith}
use Rattle.std.specs.Prelude.{slice_get}
use Rattle.std.proofs.lemmas.List.{length-take-le, take_all}
use Rattle.std.proofs.lemmas.Option.{slice_get_within}
use Rattle.ruletable.specs.Rules as table
use Rattle.ruletable.specs.Rules.{names_of, bodies_of, HasUniqueNames, Defines}
use Rattle.ruletable.specs.declared.table.Defined.{Defined}
use Rattle.ruletable.specs.declared.table.Defined.TheVariants.{Added, Duplicate}
use Rattle.ruletable.specs.declared.table.NameCase.TheVariants.{Fold}
use Rattle.fixpoint.proofs.IsAddedLemmas.{name_next}
use Rattle.abnfread.specs.AbnfViews.{element_of, rule_of, rules_of}
use Rattle.abnfread.specs.declared.elem.Elem.{Elem}
use Rattle.abnfhints.specs.WithoutLetter.{IsWithout, AreRulesWithout, no_rules, one_rule}

-- the first i rules
pub record AreLeftTo (letter : ℕ) (rules left : table.Rules Elem) (i : ℕ) : Type 0 where
  pub folds : left.names ≡ Fold
  pub names : names_of left ≡ take i (names_of rules)
  pub without : AreRulesWithout letter (map rule_of (take i rules.rules)) (rules_of left)

pub none_left : (letter : ℕ) (rules left : table.Rules Elem) → left.names ≡ Fold → left.rules ≡ []
    → AreLeftTo letter rules left 0
none_left letter rules left folds is = record {
  folds = folds;
  names = ap (map (λ (rule : table.Rule Elem). rule.name)) is;
  without = subst (λ v. AreRulesWithout letter [] (map rule_of v)) (sym is) no_rules;
}

-- one more rule of both lists
one_more_rule : (letter : ℕ) (rules : List (table.Rule Elem)) (lefts : List (table.Rule Elem)) (i : ℕ) (b : Elem)
    (l : table.Rule Elem) → AreRulesWithout letter (map rule_of (take i rules)) (map rule_of lefts)
    → slice_get (map (λ rule. rule.name) rules) i ≡ Some l.name → slice_get (map (λ rule. rule.body) rules) i ≡ Some b
    → IsWithout letter (element_of b) (element_of l.body)
    → AreRulesWithout letter (map rule_of (take (suc i) rules)) (map rule_of (lefts ++ l ∷ []))
one_more_rule letter [] lefts i b l are name_at body_at w = absurd (cc name_at)
one_more_rule letter (rule ∷ rules) [] zero b l are name_at body_at w =
    let name : rule.name ≡ l.name = cc name_at in
    let body : rule.body ≡ b = cc body_at in
    one_rule (sym name) (subst (λ v. IsWithout letter (element_of v) (element_of l.body)) (sym body) w) no_rules
one_more_rule letter (rule ∷ rules) (left ∷ lefts) zero b l are name_at body_at w = elim are [ ]
one_more_rule letter (rule ∷ rules) [] (suc i) b l are name_at body_at w = elim are [ ]
one_more_rule letter (rule ∷ rules) (left ∷ lefts) (suc i) b l (one_rule same k are) name_at body_at w =
    one_rule same k (one_more_rule letter rules lefts i b l are name_at body_at w)

pub next_left : (letter : ℕ) (rules old new : table.Rules Elem) (i : ℕ) (rule : table.Rule Elem) (b : Elem)
    (done : Defined) → HasUniqueNames rules → rules.names ≡ Fold → AreLeftTo letter rules old i
    → slice_get (names_of rules) i ≡ Some rule.name → slice_get (bodies_of rules) i ≡ Some b
    → IsWithout letter (element_of b) (element_of rule.body) → Defines old new rule done
    → AreLeftTo letter rules new (i + 1)
next_left letter rules old new i rule b done unique folds o name_at body_at w d =
    record { folds = next.0; names = next.1; without = by done d }
  where
    next : (new.names ≡ Fold) × (names_of new ≡ take (i + 1) (names_of rules))
    next = name_next rules unique Fold folds old new i rule done o.folds o.names name_at d

    long : length (names_of old) ≡ i
    long = let lt = slice_get_within (names_of rules) i rule.name name_at in ap length o.names
        ∙ length-take-le i (names_of rules) (omega (arith, lt))

    by : (done : Defined) → Defines old new rule done
        → AreRulesWithout letter (map rule_of (take (i + 1) rules.rules)) (rules_of new)
    by (Added n) added =
        let is : i + 1 ≡ suc i = omega arith in
        let P : ℕ → Type 0 = λ k. AreRulesWithout letter (map rule_of (take k rules.rules)) (rules_of new) in
        subst P (sym is)
        (subst (λ (t : table.Rules Elem). AreRulesWithout letter (map rule_of (take (suc i) rules.rules)) (rules_of t))
        (sym added.2) (one_more_rule letter rules.rules old.rules i b rule o.without name_at body_at w))
    by (Duplicate n) kept = absurd (
        let lt = slice_get_within (names_of rules) i rule.name name_at in
        let more = ap length next.1 ∙ length-take-le (i + 1) (names_of rules) (omega (arith, lt)) in
        let same : length (names_of new) ≡ length (names_of old) = ap (λ (t : table.Rules Elem). length (names_of t))
        kept.1 in
        omega (arith, more, same, long))

pub all_left : (letter : ℕ) (rules left : table.Rules Elem) (i : ℕ) → AreLeftTo letter rules left i
    → length rules.rules ≤ i → AreRulesWithout letter (rules_of rules) (rules_of left)
all_left letter rules left i p all =
    subst (λ v. AreRulesWithout letter (map rule_of v) (rules_of left)) (take_all i rules.rules all) p.without
