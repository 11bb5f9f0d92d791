-- Rules that are listed by their names, or by their keys. It serves private helpers alone.
use Rattle.std.specs.Prelude.{◌≡◌, ℕ, ◌&&◌, ◌++◌, bytes_eq, not, Bool, true, false, List, [], ◌∷◌, if◌then◌else◌}
use Rattle.std.proofs.Common.{Global, Vec}
use Rattle.ruletable.specs.Rules.{Rules, same_name}
use Rattle.ruletable.specs.declared.table.NameCase.TheVariants.{Exact, Fold}
use Rattle.diagnostics.specs.NumberLists.{numbers_for, positions_from}
use Rattle.abnftexts.specs.GivenRules.{RuleGiven, text_rule}
use Rattle.abnftexts.specs.RuleKeys.{rule_key}
use Rattle.abnftexts.specs.declared.join.by_name.Listed.{Listed}
use Rattle.abnftexts.specs.declared.join.by_name.Listed.TheVariants as kinds
use Rattle.abnftexts.specs.declared.join.given.GivenRule.{GivenRule}

-- whether a rule is listed
abbrev pub is_listed : Listed → RuleGiven → Bool
is_listed kinds.Rules rule = true
is_listed kinds.Definitions rule = not rule.adds
is_listed kinds.Elements rule = not rule.adds && not rule.is_prose
is_listed kinds.Additions rule = rule.adds

-- whether it is listed for that name
abbrev pub is_listed_for : Listed → List ℕ → RuleGiven → Bool
is_listed_for listed name rule = is_listed listed rule && same_name Fold name rule.name

-- the rule has that key
abbrev pub has_key : List ℕ → RuleGiven → Bool
has_key key rule = bytes_eq key (rule_key rule)

-- the number of the rule is put at the end of the list of its name, if it is listed
abbrev pub ListsRule : Listed → RuleGiven → ℕ → Rules (Vec ℕ Global) → Rules (Vec ℕ Global) → Type 0
ListsRule listed rule number old new = (new.names ≡ Fold)
    × ((name : List ℕ) → numbers_for new name
    ≡ numbers_for old name ++ (if is_listed_for listed name rule then number ∷ [] else []))

-- the lists have, by name, the numbers of these rules that are listed
abbrev pub ListNames : Listed → List GivenRule → Rules (Vec ℕ Global) → Type 0
ListNames listed rules lists = (lists.names ≡ Fold) × ((name : List ℕ) → numbers_for lists name
    ≡ positions_from 0 (λ rule. is_listed_for listed name (text_rule rule)) rules)

-- the lists have, by key, the numbers of these rules
abbrev pub ListKeys : List GivenRule → Rules (Vec ℕ Global) → Type 0
ListKeys rules lists = (lists.names ≡ Exact) × ((key : List ℕ) → numbers_for lists key
    ≡ positions_from 0 (λ rule. has_key key (text_rule rule)) rules)

abbrev pub has_some : List ℕ → Bool
has_some [] = false
has_some (n ∷ ns) = true

-- whether something is listed for a name
abbrev pub has_list : Rules (Vec ℕ Global) → List ℕ → Bool
has_list lists name = has_some (numbers_for lists name)
