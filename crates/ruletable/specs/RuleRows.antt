-- The rules that the rows of a table hold, and the map that finds them by the keys of their names.
use Rattle.std.specs.Prelude.{◌≡◌, ℕ, List, bytes_eq, map, position}
use Rattle.std.specs.HashMap.{HashMap, get_by}
use Rattle.std.proofs.Common.{Vec, Global}
use Rattle.ruletable.specs.Rules.{Rule, Rules, HasUniqueNames, key_of}
use Rattle.ruletable.specs.declared.table.NameCase.{NameCase}
use Rattle.ruletable.specs.declared.table.Row.{Row}

abbrev pub rule_in : {E : Type 0} → Row E → Rule E
rule_in row = record { name = row.name.items; body = row.body; span = row.span }

abbrev pub rules_in : {E : Type 0} → List (Row E) → List (Rule E)
rules_in rows = map rule_in rows

abbrev pub table_of : {E : Type 0} → NameCase → List (Row E) → Rules E
table_of names rows = record { names = names; rules = rules_in rows }

-- the map finds each rule by the key of its name, and nothing else; no two rules have one name
pub record HasIdsOf {E S : Type 0} (names : NameCase) (rows : List (Row E)) (ids : HashMap (Vec ℕ Global) ℕ S)
    : Type 0 where
  pub found : (key : List ℕ) → get_by (λ k. bytes_eq key k.items) ids
      ≡ position (λ rule. bytes_eq key (key_of names rule.name)) (rules_in rows)
  pub unique : HasUniqueNames (table_of names rows)
