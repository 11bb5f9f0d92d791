-- What contracts see of a table of rules: a list of rules in order of definition, no two of one name.
use Rattle.std.specs.Prelude.{◌≡◌, ℕ, zero, suc, Bool, bytes_eq, List, [], ◌∷◌, ◌++◌, length, map, position, slice_get}
use Rattle.std.specs.Prelude.{Option, None, Some, Contains, ◌<◌}
use Rattle.std.specs.Str.{str_to_ascii_lowercase}
use Rattle.ruletable.specs.declared.span.Span.{Span}
use Rattle.ruletable.specs.declared.table.Defined.{Defined}
use Rattle.ruletable.specs.declared.table.Defined.TheVariants.{Added, Duplicate}
use Rattle.ruletable.specs.declared.table.NameCase.{NameCase}
use Rattle.ruletable.specs.declared.table.NameCase.TheVariants.{Exact, Fold}

-- a rule: its name, its body, and where the name of its definition stands
pub record Rule (E : Type 0) : Type 0 where
  pub name : List ℕ
  pub body : E
  pub span : Span

-- how names compare, and the rules in order of definition
pub record Rules (E : Type 0) : Type 0 where
  pub names : NameCase
  pub rules : List (Rule E)

-- what two names of one rule have in common: the name itself, or its letters in lower case
abbrev pub key_of : NameCase → List ℕ → List ℕ
key_of Exact name = name
key_of Fold name = str_to_ascii_lowercase name

abbrev pub same_name : NameCase → List ℕ → List ℕ → Bool
same_name names a b = bytes_eq (key_of names a) (key_of names b)

-- the id of the rule of that name: its position in the list
abbrev pub find_in : {E : Type 0} → Rules E → List ℕ → Option ℕ
find_in table name = position (λ rule. same_name table.names name rule.name) table.rules

abbrev pub names_of : {E : Type 0} → Rules E → List (List ℕ)
names_of table = map (λ rule. rule.name) table.rules

abbrev pub bodies_of : {E : Type 0} → Rules E → List E
bodies_of table = map (λ rule. rule.body) table.rules

abbrev pub spans_of : {E : Type 0} → Rules E → List Span
spans_of table = map (λ rule. rule.span) table.rules

-- each rule is the one that its own name finds, so no two have one name
pub record HasUniqueNames {E : Type 0} (table : Rules E) : Type 0 where
  pub own : (id : ℕ) (rule : Rule E) → slice_get table.rules id ≡ Some rule → find_in table rule.name ≡ Some id

-- a new name adds its rule as the last one, and a name that is there changes nothing
abbrev pub Defines : {E : Type 0} → Rules E → Rules E → Rule E → Defined → Type 0
Defines old new rule (Added id) =
    (find_in old rule.name ≡ None) × (id ≡ length old.rules)
    × (new ≡ record { names = old.names; rules = old.rules ++ rule ∷ [] })
Defines old new rule (Duplicate id) = (find_in old rule.name ≡ Some id) × (new ≡ old)

-- the rules, with w as the body of the rule with that id
abbrev pub set_body : {E : Type 0} → List (Rule E) → ℕ → E → List (Rule E)
set_body [] id w = []
set_body (rule ∷ rules) zero w = record { name = rule.name; body = w; span = rule.span } ∷ rules
set_body (rule ∷ rules) (suc id) w = rule ∷ set_body rules id w

abbrev pub with_body : {E : Type 0} → Rules E → ℕ → E → Rules E
with_body table id w = record { names = table.names; rules = set_body table.rules id w }

-- each number of the list is the id of a rule
abbrev pub AreIds : {E : Type 0} → Rules E → List ℕ → Type 0
AreIds table ids = (id : ℕ) → Contains ids id → id < length table.rules
