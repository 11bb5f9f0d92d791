-- The core rules, one more at a time.
-- Serves: core_rules, read_abnf
use Rattle.std.proofs.Common.{◌≡◌, ℕ, zero, suc, ◌<◌, List, [], ◌∷◌, ◌++◌, map, take, position, Some, None, refl, sym}
use Rattle.std.proofs.Common.{◌∙◌, ap, arith}
use Rattle.std.specs.Prelude.{slice_get}
use Rattle.std.proofs.lemmas.List.{map-append}
use Rattle.ruletable.specs.declared.span.Span.{Span}
use Rattle.ruletable.specs.declared.table.Defined.{Defined}
use Rattle.ruletable.specs.declared.table.Defined.TheVariants.{Added, Duplicate}
use Rattle.ruletable.specs.declared.table.NameCase.TheVariants.{Fold}
use Rattle.ruletable.specs.Rules as table
use Rattle.ruletable.specs.Rules.{find_in, same_name, Defines}
use Rattle.ruletable.proofs.TableLemmas.{position-map}
use Rattle.abnfread.specs.declared.elem.Elem.{Elem}
use Rattle.abnfread.specs.CoreRules.{nowhere, core_list, core_names, core_bodies}
use Rattle.abnfread.specs.Element.{Element, Rule}
use Rattle.abnfread.specs.AbnfViews.{element_of, rule_of, rules_of}

pub record IsCoreSoFar (i : ℕ) (rules : table.Rules Elem) : Type 0 where
  pub names : rules.names ≡ Fold
  pub so_far : rules_of rules ≡ take i core_list

-- a name is found in a table of elements where it is found in the rules that these stand for
pub found-in : (rules : table.Rules Elem) (n : List ℕ) → rules.names ≡ Fold
    → find_in rules n ≡ position (λ (rule : Rule). same_name Fold n rule.name) (rules_of rules)
found-in rules n folds = rw folds (sym (position-map rule_of (λ (rule : Rule). same_name Fold n rule.name) rules.rules))

pub some-one : {A : Type 0} {a b : A} → Some a ≡ Some b → a ≡ b
some-one e = cc

abbrev StandNowhere : List Rule → Type 0
StandNowhere [] = Unit {0}
StandNowhere (rule ∷ rules) = (rule.span ≡ nowhere) × StandNowhere rules

rules-alike : (rule : Rule) {n : List ℕ} {x : Element} {p : Span} → n ≡ rule.name → x ≡ rule.body → p ≡ rule.span
    → record { name = n; body = x; span = p } ≡ rule
rules-alike rule n b s = rw (n, b, s) refl

row-at : (rules : List Rule) (i : ℕ) (n : List ℕ) (x : Element) → StandNowhere rules
    → slice_get (map (λ rule. rule.name) rules) i ≡ Some n → slice_get (map (λ rule. rule.body) rules) i ≡ Some x →
    take i rules ++ record { name = n; body = x; span = nowhere } ∷ [] ≡ take (suc i) rules
row-at [] i n x w h k = absurd (none-some h)
  where
    none-some : {a : List ℕ} → None ≡ Some a → ⊥
    none-some e = cc
row-at (rule ∷ rules) zero n x w h k = ap (λ (r : Rule). r ∷ [])
    (rules-alike rule (sym (some-one h)) (sym (some-one k)) (sym w.0))
row-at (rule ∷ rules) (suc i) n x w h k = ap (λ (rs : List Rule). rule ∷ rs) (row-at rules i n x w.1 h k)

core-nowhere : StandNowhere core_list
core-nowhere = (
  refl,
  (
    refl,
    (
      refl,
      (
        refl,
        (
          refl,
          (refl, (refl, (refl, (refl, (refl, (refl, (refl, (refl, (refl, (refl, (refl, tt))))))))))),
        ),
      ),
    ),
  ),
)

-- no core rule has the name of an earlier one
core-new : (i : ℕ) (n : List ℕ) → i < 16 → slice_get core_names i ≡ Some n
    → position (λ (rule : Rule). same_name Fold n rule.name) (take i core_list) ≡ None
core-new zero n lt h = refl
core-new (suc zero) n lt h = rw (sym (some-one h)) refl
core-new (suc (suc zero)) n lt h = rw (sym (some-one h)) refl
core-new (suc (suc (suc zero))) n lt h = rw (sym (some-one h)) refl
core-new (suc (suc (suc (suc zero)))) n lt h = rw (sym (some-one h)) refl
core-new (suc (suc (suc (suc (suc zero))))) n lt h = rw (sym (some-one h)) refl
core-new (suc (suc (suc (suc (suc (suc zero)))))) n lt h = rw (sym (some-one h)) refl
core-new (suc (suc (suc (suc (suc (suc (suc zero))))))) n lt h = rw (sym (some-one h)) refl
core-new (suc (suc (suc (suc (suc (suc (suc (suc zero)))))))) n lt h = rw (sym (some-one h)) refl
core-new (suc (suc (suc (suc (suc (suc (suc (suc (suc zero))))))))) n lt h = rw (sym (some-one h)) refl
core-new (suc (suc (suc (suc (suc (suc (suc (suc (suc (suc zero)))))))))) n lt h = rw (sym (some-one h)) refl
core-new (suc (suc (suc (suc (suc (suc (suc (suc (suc (suc (suc zero))))))))))) n lt h = rw (sym (some-one h)) refl
core-new (suc (suc (suc (suc (suc (suc (suc (suc (suc (suc (suc (suc zero)))))))))))) n lt h =
    rw (sym (some-one h)) refl
core-new (suc (suc (suc (suc (suc (suc (suc (suc (suc (suc (suc (suc (suc zero))))))))))))) n lt h =
    rw (sym (some-one h)) refl
core-new (suc (suc (suc (suc (suc (suc (suc (suc (suc (suc (suc (suc (suc (suc zero)))))))))))))) n lt h =
    rw (sym (some-one h)) refl
core-new (suc (suc (suc (suc (suc (suc (suc (suc (suc (suc (suc (suc (suc (suc (suc zero))))))))))))))) n lt h =
    rw (sym (some-one h)) refl
core-new (suc (suc (suc (suc (suc (suc (suc (suc (suc (suc (suc (suc (suc (suc (suc (suc i)))))))))))))))) n lt h =
    absurd (omega (arith, lt))

pub next-core : (old new : table.Rules Elem) (i : ℕ) (n : List ℕ) (e : Elem) (x : Defined) → IsCoreSoFar i old → i < 16
    → slice_get core_names i ≡ Some n → slice_get core_bodies i ≡ Some (element_of e) →
    Defines old new (record { name = n; body = e; span = nowhere }) x → IsCoreSoFar (suc i) new
next-core old new i n e (Added id) c lt h k d = record {
  names = ap (λ (t : table.Rules Elem). t.names) d.2 ∙ c.names;
  so_far = ap rules_of d.2 ∙ map-append rule_of old.rules (record { name = n; body = e; span = nowhere } ∷ [])
      ∙ ap (λ (rs : List Rule). rs ++ record { name = n; body = element_of e; span = nowhere } ∷ []) c.so_far
      ∙ row-at core_list i n (element_of e) core-nowhere h k;
}
next-core old new i n e (Duplicate id) c lt h k d =
    let none : find_in old n ≡ None = found-in old n c.names
    ∙ ap (position (λ (rule : Rule). same_name Fold n rule.name)) c.so_far ∙ core-new i n lt h in
    absurd (some-none (sym d.0 ∙ none))
  where
    some-none : {A : Type 0} {a : A} → Some a ≡ None → ⊥
    some-none e = cc

pub all-core : (i : ℕ) (rules : table.Rules Elem) → IsCoreSoFar i rules → i ≡ 16 → rules_of rules ≡ core_list
all-core i rules c e = c.so_far ∙ ap (λ (j : ℕ). take j core_list) e

pub core-at : (i j : ℕ) (rules : table.Rules Elem) → j ≡ suc i → IsCoreSoFar (suc i) rules → IsCoreSoFar j rules
core-at i j rules e c = record { names = c.names; so_far = c.so_far ∙ ap (λ (k : ℕ). take k core_list) (sym e) }
