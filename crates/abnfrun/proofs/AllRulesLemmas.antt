-- The rules of the table of a file and of the core rules are those of its definitions.
-- Serves: run_abnf (right)
use Rattle.std.proofs.Common.{◌≡◌, ℕ, Bool, true, false, not, ◌||◌, cond, List, [], ◌∷◌, ◌++◌, map, Option, Some, None}
use Rattle.std.proofs.Common.{◌<◌, length, refl, sym, ◌∙◌, ap, arith}
use Rattle.std.specs.Prelude.{MatchOption, filter}
use Rattle.std.specs.List.{list_any}
use Rattle.std.proofs.lemmas.List.{map-append}
use Rattle.ruletable.specs.Notes.{Said}
use Rattle.ruletable.specs.Rules as table
use Rattle.ruletable.specs.Rules.{same_name}
use Rattle.ruletable.specs.declared.table.NameCase.{NameCase}
use Rattle.ruletable.specs.declared.table.NameCase.TheVariants.{Fold}
use Rattle.abnfread.specs.AbnfReading.{Reads}
use Rattle.abnfread.specs.AbnfTable.{IsTableOf, IsCoreTable}
use Rattle.abnfread.specs.CoreRules.{core_list}
use Rattle.abnfread.specs.Element.{Rule, Definition}
use Rattle.abnfread.specs.AbnfViews.{rule_of, rules_of}
use Rattle.abnfread.specs.declared.elem.Elem.{Elem}
use Rattle.abnfcheck.specs.AbnfGrammar.{IsSoundGrammar}
use Rattle.abnfcheck.specs.AbnfNotes.{AreNotes, IsRefused, judged_in}
use Rattle.abnfcheck.specs.WithCore.{has_name, one_each, left_alone, with_core}
use Rattle.abnfrun.specs.AbnfLanguage.{IsChecked, IsPrintable}
use Rattle.abnfprint.specs.AbnfReadBack.{file_rules}
use Rattle.abnfrun.specs.AbnfNoted.{AreRedefinitions, IsRefusedFor, all_rules, judged_of}

pub any_map : {A B : Type 0} (f : A → B) (p : B → Bool) (xs : List A) → list_any p (map f xs)
    ≡ list_any (λ x. p (f x)) xs
any_map f p [] = refl
any_map f p (x ∷ xs) = ap (λ b. p (f x) || b) (any_map f p xs)

map_filter : {A B : Type 0} (f : A → B) (p : A → Bool) (q : B → Bool) → ((x : A) → q (f x) ≡ p x) → (xs : List A)
    → map f (filter p xs) ≡ filter q (map f xs)
map_filter f p q same [] = refl
map_filter {A} {B} f p q same (x ∷ xs) =
    step (p x) (filter p xs) (filter q (map f xs)) (map_filter f p q same xs)
    ∙ ap (λ b. cond b (f x ∷ filter q (map f xs)) (filter q (map f xs))) (sym (same x))
  where
    step : (b : Bool) (us : List A) (vs : List B) → map f us ≡ vs → map f (cond b (x ∷ us) us) ≡ cond b (f x ∷ vs) vs
    step true us vs e = ap (λ l. f x ∷ l) e
    step false us vs e = e

one_each_map : (names : NameCase) (rules : List (table.Rule Elem)) → map rule_of (one_each names rules)
    ≡ one_each names (map rule_of rules)
one_each_map names [] = refl
one_each_map names (rule ∷ rules) = ap (λ l. rule_of rule ∷ l)
    (map_filter rule_of (λ (later : table.Rule Elem). not (same_name names later.name rule.name))
    (λ (later : Rule). not (same_name names later.name rule.name)) (λ later. refl) (one_each names rules)
    ∙ ap (filter (λ (later : Rule). not (same_name names later.name rule.name))) (one_each_map names rules))

pub all_same : (definitions : List Definition) (file core : table.Rules Elem) → file.names ≡ Fold
    → rules_of file ≡ file_rules definitions → rules_of core ≡ core_list →
    rules_of (with_core file core.rules) ≡ all_rules definitions
all_same definitions file core folds kept listed =
    map-append rule_of file.rules (left_alone file core.rules)
    ∙ ap (λ l. rules_of file ++ l)
    (map_filter rule_of (λ (rule : table.Rule Elem). not (has_name file.names file.rules rule.name))
    (λ (rule : Rule). not (has_name file.names (rules_of file) rule.name))
    (λ rule. ap not (any_map rule_of (λ own. same_name file.names rule.name own.name) file.rules))
    (one_each file.names core.rules)
    ∙ ap (filter (λ (rule : Rule). not (has_name file.names (rules_of file) rule.name)))
    (one_each_map file.names core.rules))
    ∙ rw (folds, kept, listed) refl

-- there is a rule: core rules follow those of a file without rules
pub some_rules : (definitions : List Definition) → 0 < length (all_rules definitions)
some_rules definitions = by (file_rules definitions)
  where
    some_left : (names : NameCase) (rules : List Rule) → 0 < length rules
        → 0 < length (left_alone (record { names = names; rules = [] }) rules)
    some_left names [] some = some
    some_left names (rule ∷ rules) some = omega arith

    core_count : length core_list ≡ 16
    core_count = refl

    by : (file : List Rule) → 0 < length ((with_core (record { names = Fold; rules = file }) core_list).rules)
    by [] = some_left Fold core_list (omega (arith, core_count))
    by (rule ∷ file) = omega arith

pub is_checked : (text : List ℕ) (given : Option (List ℕ)) (file core rules : table.Rules Elem) (again early : List ℕ)
    (notes : List Said) (judged : Option ℕ) →
    ((definitions : List Definition) × Reads text definitions × IsTableOf definitions file again early)
    → IsCoreTable core → rules ≡ with_core file core.rules →
    AreNotes (rules_of file) (rules_of (with_core file core.rules)) again early given notes →
    MatchOption judged (IsRefused (rules_of file) (rules_of rules) again (judged_in given (rules_of rules)))
    (λ id. (IsRefused (rules_of file) (rules_of rules) again (judged_in given (rules_of rules)) → ⊥)
    × (id ≡ judged_in given (rules_of rules)) × IsSoundGrammar (record { rules = rules; judged = id }))
    → IsChecked text given notes rules judged
is_checked text given file core rules again early notes judged (ds, reads, t) c is are ready = record {
  definitions = ds;
  reads = reads;
  are_notes = rw (joined, t.kept, t.again, t.before) at are;
  kept = all;
  ready = by judged ready;
}
  where
    joined : rules_of (with_core file core.rules) ≡ all_rules ds
    joined = all_same ds file core t.names t.kept c.listed

    all : rules_of rules ≡ all_rules ds
    all = ap rules_of is ∙ joined

    by : (judged : Option ℕ) →
        MatchOption judged (IsRefused (rules_of file) (rules_of rules) again (judged_in given (rules_of rules)))
        (λ id. (IsRefused (rules_of file) (rules_of rules) again (judged_in given (rules_of rules)) → ⊥)
        × (id ≡ judged_in given (rules_of rules)) × IsSoundGrammar (record { rules = rules; judged = id })) →
        MatchOption judged (IsRefusedFor ds given) (λ id. (IsRefusedFor ds given → ⊥) × (id ≡ judged_of ds given))
    by None h = rw (all, t.kept, t.again) at h
    by (Some id) h = (rw (all, t.kept, t.again) at h.0, h.1 ∙ ap (judged_in given) all)

pub is_printable : (text : List ℕ) (file : table.Rules Elem) (again early : List ℕ) (notes : List Said) →
    ((definitions : List Definition) × Reads text definitions × IsTableOf definitions file again early)
    → AreRedefinitions (rules_of file) again notes →
    IsPrintable text (rules_of file) notes
is_printable text file again early notes (ds, reads, t) are =
    record { definitions = ds; reads = reads; kept = t.kept; are_again = rw (t.kept, t.again) at are }
