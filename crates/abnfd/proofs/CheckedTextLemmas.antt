-- The rules of a text that was read and checked.
-- Serves: abnfd_main
use Rattle.std.proofs.Common.{◌≡◌, ◌∙◌, ap, refl, subst, sym, ℕ, ◌<◌, ⊎_elim, Bool, true, false, List, arith}
use Rattle.std.proofs.Common.{length, map}
use Rattle.std.proofs.lemmas.Bool.{cases_lt}
use Rattle.std.proofs.lemmas.List.{length-map}
use Rattle.std.proofs.lemmas.Simd.{map-map}
use Rattle.std.proofs.Common.{Global, Vec}
use Rattle.std.specs.Prelude.{◌↔◌, Contains, Err, IfOk, None, Ok, Option, Result, Some, option_map}
use Rattle.abnfcheck.proofs.AbnfNotesLemmas.{id_most}
use Rattle.abnfcheck.specs.AbnfGrammar.{Grammar, IsSound, Reachable, judged_rule}
use Rattle.abnfcheck.specs.AbnfNotes.{AreOthersRefused, IsRefused, judged_in}
use Rattle.abnfcheck.specs.AbnfNotes as n
use Rattle.abnfcheck.specs.WithCore.{with_core}
use Rattle.abnfd.specs.ComparedSides.{IsMadeOf, IsReadText}
use Rattle.abnfd.specs.RulesByName.{AreAccepted, AreChecked}
use Rattle.abnfd.specs.declared.by_name.CheckedRules.{CheckedRules}
use Rattle.abnfprint.specs.AbnfReadBack.{file_rules}
use Rattle.abnfread.specs.AbnfViews.{rule_of, rules_of}
use Rattle.abnfread.specs.Element.{Rule, id_of}
use Rattle.abnfread.specs.declared.elem.Elem.{Elem}
use Rattle.abnfread.specs.declared.table.Abnf.{Abnf}
use Rattle.abnfrun.proofs.AllRulesLemmas.{all_same}
use Rattle.abnfrun.specs.AbnfNoted.{again_in, all_rules}
use Rattle.fixpoint.proofs.IsMarkedLemmas.{marked_lt}
use Rattle.fixpoint.specs.NumberMarks.{IsMarked}
use Rattle.fixpoint.specs.IdMarks.{AreMarks}
use Rattle.ruletable.specs.Rules as table
use Rattle.ruletable.specs.Rules.{names_of}
use Rattle.ruletable.specs.declared.table.NameCase.TheVariants.{Fold}

-- the grammar of the rules, unless it is rejected
abbrev pub grammar_in : table.Rules Elem → Option ℕ → Option Grammar
grammar_in rules judged = option_map (λ id. record { rules = rules; judged = id }) judged

pub is_made : (rules : table.Rules Elem) (judged : Option ℕ) → IsMadeOf rules judged (grammar_in rules judged)
is_made rules None = refl
is_made rules (Some id) = (refl, refl)

module _ (file rules : List Rule) (again : List ℕ) where
  marked_passes : (marks : List Bool) → (((id : ℕ) × (id < length file) × Contains again id) → ⊥)
      → (id : ℕ) → IsSound rules id → IsRefused file rules again id → ⊥
  marked_passes marks none id sound (n.by_redefinition {id = other} lt h) = none (other, lt, h)
  marked_passes marks none id sound (n.by_name r) = let lt = sound.defined (length rules) r in omega (arith, lt)
  marked_passes marks none id sound (n.by_prose {id = other} r h) =
      sound.plain other h.body h.text r h.body_is h.within

  module _ (redefined : Bool) (marks : List Bool)
      (some : (redefined ≡ true) ↔ ((id : ℕ) × (id < length file) × Contains again id)) where
    accepted_marks : (is : Bool) → is ≡ redefined → AreAccepted rules is marks → (rule : List ℕ)
        → IsMarked marks (judged_in (Some rule) rules) → IsRefused file rules again (judged_in (Some rule) rules) → ⊥
    accepted_marks true same are rule on =
        absurd (let lt = marked_lt marks (judged_in (Some rule) rules) on in let none = ap length are in
        omega (arith, lt, none))
    accepted_marks false same are rule on =
        let id = judged_in (Some rule) rules in
        let below : id < length rules = (let lt = marked_lt marks id on in let count = are.0.count_is in
        omega (arith, lt, count)) in
        marked_passes marks (λ at. let is = some.1 at in cc (is, same)) id ((are.0.exact id below).0 on)

    unnamed_refused : (id : ℕ) → id ≡ length rules → IsRefused file rules again id
    unnamed_refused id is = n.by_name (subst (λ (k : ℕ). Reachable rules id k) is judged_rule)

    rejected_others : (is : Bool) → is ≡ redefined → AreAccepted rules is marks → (rule : List ℕ)
        → (IsMarked marks (judged_in (Some rule) rules) → ⊥)
        → IsRefused file rules again (judged_in (Some rule) rules)
    rejected_others true same are rule off = let at = some.0 (sym same) in n.by_redefinition at.1 at.2
    rejected_others false same are rule off =
        ⊎_elim (λ lt. are.1 (id_of rules rule) lt off file again)
        (λ le. unnamed_refused (id_of rules rule)
        (let most = id_most rules rule in omega (arith, le, most)))
        (cases_lt (id_of rules rule) (length rules))

ok_both : {T E : Type 0} (result : Result T E) (P Q : T → Type 0) → IfOk result P → IfOk result Q
    → IfOk result (λ x. P x × Q x)
ok_both (Ok x) P Q p q = (p, q)
ok_both (Err e) P Q p q = tt

pub accepted_both : {E : Type 0} (result : Result (Vec Bool Global) E) (rules : List Rule)
    → IfOk result (λ marks. AreMarks (IsSound rules) (length rules) marks.items)
    → IfOk result (λ marks. AreOthersRefused rules marks.items)
    → IfOk result (λ marks. AreAccepted rules false marks.items)
accepted_both result rules sound others =
    ok_both result (λ marks. AreMarks (IsSound rules) (length rules) marks.items)
    (λ marks. AreOthersRefused rules marks.items) sound others

pub text_is_checked : (text : List ℕ) (abnf : Abnf) (checked : CheckedRules) (redefined : Bool) → IsReadText text abnf
    → checked.names.names ≡ Fold → names_of checked.names ≡ names_of abnf.rules
    → checked.rules ≡ with_core abnf.rules abnf.core.rules
    → ((redefined ≡ true) ↔ ((id : ℕ) × (id < length abnf.rules.rules) × Contains abnf.redefined.items id))
    → AreAccepted (rules_of checked.rules) redefined checked.sound.items → AreChecked text checked
text_is_checked text abnf checked redefined ((ds, reads, t), core) fold names is again accepted =
    let joined = ap rules_of is ∙ all_same ds abnf.rules abnf.core t.names t.kept core.listed in
    let size : length abnf.rules.rules ≡ length (rules_of abnf.rules) = sym (length-map abnf.rules.rules rule_of) in
    record {
      definitions = ds;
      reads = reads;
      names_fold = fold;
      names_are = names ∙ (sym (map-map (λ (rule : Rule). rule.name) rule_of abnf.rules.rules)
          ∙ ap (map (λ (rule : Rule). rule.name)) t.kept);
      folds = ap (λ (r : table.Rules Elem). r.names) is ∙ t.names;
      kept = joined;
      accepted = accepted_marks (file_rules ds) (all_rules ds) (again_in ds) redefined checked.sound.items
          (rw (size, t.kept, t.again) at again) redefined refl (rw joined at accepted);
      rejected = rejected_others (file_rules ds) (all_rules ds) (again_in ds) redefined checked.sound.items
          (rw (size, t.kept, t.again) at again) redefined refl (rw joined at accepted);
    }
