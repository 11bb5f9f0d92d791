-- The uses of the code. It serves private helpers alone.
use Rattle.std.specs.Prelude.{◌≡◌, ℕ, ◌||◌, not, Bool, List, [], ◌++◌, if◌then◌else◌}
use Rattle.std.specs.List.{list_any}
use Rattle.std.proofs.Common.{Global, Vec}
use Rattle.ruletable.specs.Rules.{Rules, same_name}
use Rattle.ruletable.specs.declared.table.NameCase.TheVariants.{Fold}
use Rattle.abnfread.specs.CoreRules.{core_names}
use Rattle.abnftexts.specs.GivenRules.{RuleGiven}
use Rattle.abnftexts.specs.ListedRules.{has_list}
use Rattle.abnftexts.specs.RulesGathered.{RuleLines}
use Rattle.abnftexts.specs.UsedNames.{AreRuleUses, UsedName, undefined_line}
use Rattle.abnftexts.specs.declared.uses.NameUse.{NameUse}

-- what the code's use stands for
abbrev pub name_used : NameUse → UsedName
name_used u = record { text = u.text.now; line = u.line; name = u.name.items }

-- the uses of that rule follow those so far
abbrev pub AddsUses : RuleLines → List UsedName → List UsedName → Type 0
AddsUses position old new = (more : List UsedName) × AreRuleUses position more × (new ≡ old ++ more)

-- one name more is listed
abbrev pub ListsMore : List ℕ → Rules (Vec ℕ Global) → Rules (Vec ℕ Global) → Type 0
ListsMore name old new = (new.names ≡ Fold)
    × ((other : List ℕ) → has_list new other ≡ (has_list old other || same_name Fold other name))

-- the names are listed of these rules, and of these uses
abbrev pub ListKnown : List RuleGiven → List UsedName → Rules (Vec ℕ Global) → Type 0
ListKnown rules uses names = (names.names ≡ Fold) × ((name : List ℕ) → has_list names name
    ≡ (list_any (λ rule. same_name Fold name rule.name) rules || list_any (λ u. same_name Fold name u.name) uses))

-- a name is listed, or is that of a core rule
abbrev pub is_defined : Rules (Vec ℕ Global) → List ℕ → Bool
is_defined names name = has_list names name || list_any (same_name Fold name) core_names

abbrev pub is_unknown : Rules (Vec ℕ Global) → List ℕ → Bool
is_unknown names name = not (is_defined names name)

-- the line of a use whose name is such
abbrev pub unknown_reported : Rules (Vec ℕ Global) → UsedName → List ℕ
unknown_reported names u = if is_unknown names u.name then undefined_line u else []
