-- The hints on the grammar of a text are one text, and those that the code finds by its positions.
-- Serves: one_statement_of_abnf, run_abnf (right)
use Rattle.std.proofs.Common.{◌≡◌, ◌+◌, ◌<◌, ℕ, Bool, true, false, cond, nat_lt, List, length, Option, Some, None}
use Rattle.std.proofs.Common.{refl, sym, ◌∙◌, ap, subst, arith}
use Rattle.std.specs.Prelude.{Result, Ok, Err, IfOk}
use Rattle.std.specs.List.{position_or_len}
use Rattle.std.proofs.lemmas.Bool.Decides.{nat_tests}
use Rattle.std.proofs.lemmas.List.Recursion.{is_position_or_len}
use Rattle.ruletable.proofs.TableLemmas.{position-map}
use Rattle.ruletable.specs.declared.memory.Memory.{Memory}
use Rattle.ruletable.specs.Letters.{has}
use Rattle.ruletable.specs.Rules as table
use Rattle.ruletable.specs.Rules.{find_in, same_name}
use Rattle.ruletable.specs.declared.table.NameCase.TheVariants.{Fold}
use Rattle.abnfread.specs.AbnfReading.{Reads}
use Rattle.abnfread.specs.AbnfViews.{rule_of, rules_of}
use Rattle.abnfread.specs.Element.{Definition, Rule, id_of}
use Rattle.abnfread.specs.declared.elem.Elem.{Elem}
use Rattle.abnfcheck.specs.AbnfNotes.{judged_in}
use Rattle.abnfhints.specs.AbnfHints.{AreAbnfHints}
use Rattle.abnfhints.specs.declared.line_end.LineEnd.{LineEnd}
use Rattle.abnfprint.specs.AbnfReadBack.{file_rules}
use Rattle.abnfrun.specs.AbnfNoted.{all_rules, judged_of, rule_given}
use Rattle.abnfrun.specs.AbnfTextHints.{AreTextHints, end_for, hinted_rule, id_of_rule}
use Rattle.abnfrun.specs.AbnfSettings.{AbnfSettings}
use Rattle.abnfrun.proofs.AllRulesLemmas.{some_rules}

-- a text reads as one list of definitions
abbrev ReadingsAreOne : Type 0
ReadingsAreOne = (text : List ℕ) (a b : List Definition) → Reads text a → Reads text b → a ≡ b

-- hints on rules are one text
abbrev HintsOnRulesAreOne : Type 0
HintsOnRulesAreOne = (alphabet : ℕ → Bool) (rules : List Rule) (count : ℕ) (judged : Option ℕ) (end : LineEnd)
    (text a b : List ℕ) → AreAbnfHints alphabet rules count judged end text a
    → AreAbnfHints alphabet rules count judged end text b → a ≡ b

pub text_hints_are_one : ReadingsAreOne → HintsOnRulesAreOne → (text : List ℕ) (settings : AbnfSettings) (a b : List ℕ)
    → AreTextHints text settings a → AreTextHints text settings b → a ≡ b
text_hints_are_one reading one text settings a b g h =
    let same : h.definitions ≡ g.definitions = reading text h.definitions g.definitions h.reads g.reads in
    one (has settings.options.letters) (all_rules g.definitions) (length (file_rules g.definitions))
    (hinted_rule settings.options.keeps (id_of_rule (all_rules g.definitions)
    (judged_of g.definitions (rule_given settings))))
    (end_for settings.options.nul) text
    a b g.are_hints
    (subst (λ (ds : List Definition). AreAbnfHints (has settings.options.letters) (all_rules ds) (length
    (file_rules ds))
    (hinted_rule settings.options.keeps (id_of_rule (all_rules ds) (judged_of ds (rule_given settings))))
    (end_for settings.options.nul) text b) same h.are_hints)

-- a name finds the rule that has its id
id_counted : (rules : List Rule) (name : List ℕ)
    → id_of rules name ≡ position_or_len (λ rule. same_name Fold name rule.name) rules
id_counted rules name = is_position_or_len (λ rs. id_of rs name) (λ rule. same_name Fold name rule.name) refl
    (λ rule rs. step (same_name Fold name rule.name) (id_of rs name)) rules
  where
    step : (b : Bool) (k : ℕ) → cond b 0 (k + 1) ≡ cond b 0 (1 + k)
    step true k = refl
    step false k = omega arith

found_in_rules : (rules : table.Rules Elem) (name : List ℕ) → rules.names ≡ Fold
    → find_in rules name ≡ id_of_rule (rules_of rules) (judged_in (Some name) (rules_of rules))
found_in_rules rules name folds =
    let there : find_in rules name ≡ id_of_rule (rules_of rules)
    (position_or_len (λ (rule : Rule). same_name Fold name rule.name) (rules_of rules)) =
    rw folds (sym (position-map rule_of (λ (rule : Rule). same_name Fold name rule.name) rules.rules)) in
    there ∙ ap (id_of_rule (rules_of rules)) (sym (id_counted (rules_of rules) name))

pub judged_found : (r : Result (Option ℕ) Memory) (rules : table.Rules Elem) (given : Option (List ℕ)) (name : List ℕ)
    → rules.names ≡ Fold → given ≡ Some name → IfOk r (λ id. id ≡ find_in rules name)
    → IfOk r (λ id. 0 < length (rules_of rules) → id ≡ id_of_rule (rules_of rules) (judged_in given (rules_of rules)))
judged_found (Ok id) rules given name folds is found =
    λ some. found ∙ found_in_rules rules name folds
    ∙ ap (λ (o : Option (List ℕ)). id_of_rule (rules_of rules) (judged_in o (rules_of rules))) (sym is)
judged_found (Err fault) rules given name folds is found = tt

pub judged_first : (rules : List Rule) (given : Option (List ℕ)) → given ≡ None → 0 < length rules
    → Some 0 ≡ id_of_rule rules (judged_in given rules)
judged_first rules given none some =
    rw none (by (nat_lt 0 (length rules)) (λ no. grind (arith, nat_tests)))
  where
    by : (b : Bool) → (b ≡ false → ⊥) → ◌≡◌ {A = Option ℕ} (Some 0) (cond b (Some 0) None)
    by true h = refl
    by false h = absurd (h refl)

-- hints on the rules of a text
pub text_hints : (text : List ℕ) (settings : AbnfSettings) (definitions : List Definition) (rules : List Rule)
    (count : ℕ)
    (judged : Option ℕ) (end : LineEnd) (hints : List ℕ) → Reads text definitions → rules ≡ all_rules definitions
    → count ≡ length (file_rules definitions)
    → (0 < length rules
    → judged ≡ hinted_rule settings.options.keeps (id_of_rule rules (judged_in (rule_given settings) rules)))
    → end ≡ end_for settings.options.nul → AreAbnfHints (has settings.options.letters) rules count judged end text hints
    → AreTextHints text settings hints
text_hints text settings definitions rules count judged end hints reads all counted is ends are =
    let some = subst (λ (rs : List Rule). 0 < length rs) (sym all) (some_rules definitions) in
    record { definitions = definitions; reads = reads; are_hints = rw (is some, all, counted, ends) at are }
