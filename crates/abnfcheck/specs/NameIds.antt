-- Names by id, and the ids of the names in the rules' bodies.
use Rattle.std.specs.Prelude.{◌≡◌, ◌⊎◌, ℕ, ◌<◌, ◌≤◌, List, [], ◌++◌, length, slice_get, Option, Some, None}
use Rattle.std.specs.Prelude.{option_to_list}
use Rattle.fixpoint.specs.StepRows.{row_at}
use Rattle.ruletable.specs.declared.table.NameCase.TheVariants.{Fold}
use Rattle.fixpoint.specs.FirstUses.{news}
use Rattle.fixpoint.specs.NameUses.{IsPosition, AreIdsOf}
use Rattle.abnfread.specs.Element.{Element, Name, Rule, bodies}
use Rattle.abnfcheck.specs.AbnfGrammar.{Within}
use Rattle.abnfcheck.specs.AbnfUses.{names_in, names_used, rule_names}

-- the id of a name by its position: the number of rules stands for a name without a rule
abbrev pub IsIdAt : ℕ → ℕ → ℕ → Type 0
IsIdAt count position id = ((position < count) × (id ≡ position)) ⊎ ((count ≤ position) × (id ≡ count))

-- of each of the first rules the ids of the names in its body
pub record AreRowsTo (rules : List Rule) (names : List (List ℕ)) (rows : List (List ℕ)) (count : ℕ) : Type 0 where
  pub count_is : length rows ≡ count
  pub ids : (id : ℕ) (body : Element) → id < count → slice_get (bodies rules) id ≡ Some body
      → AreIdsOf Fold names (names_in body) (row_at rows id)

-- of each rule the ids of the names in its body; the other names have empty rows
pub record AreRows (rules : List Rule) (names : List (List ℕ)) (rows : List (List ℕ)) : Type 0 where
  pub count : length rows ≡ length names
  pub ids : (id : ℕ) (body : Element) → slice_get (bodies rules) id ≡ Some body
      → AreIdsOf Fold names (names_in body) (row_at rows id)
  pub others : (id : ℕ) → length rules ≤ id → row_at rows id ≡ []

-- the position of the given name, or the first
abbrev pub IsJudged : Option (List ℕ) → List (List ℕ) → ℕ → Type 0
IsJudged None names judged = judged ≡ 0
IsJudged (Some name) names judged = IsPosition Fold name names judged

-- the names of the rules, and then those that no rule has, by first use; a name given for the judged rule is a use
-- before all others
abbrev pub all_names : List Rule → Option (List ℕ) → List (List ℕ)
all_names rules given = rule_names rules ++ news Fold (rule_names rules) (option_to_list given ++ names_used rules)

-- the body of the rule with the first id has a name that stands at the second position of a list
pub record UsesNameAt (rules : List Rule) (names : List (List ℕ)) (user position : ℕ) : Type 0 where
  pub body : Element
  pub name : List ℕ
  pub body_is : slice_get (bodies rules) user ≡ Some body
  pub within : Within body (Name name)
  pub position_is : IsPosition Fold name names position

-- the names by id, of each rule the ids of the names in its body, and the position of the given name
pub record IsGraph (rules : List Rule) (given : Option (List ℕ)) (names : List (List ℕ)) (rows : List (List ℕ))
    (judged : ℕ) : Type 0 where
  pub all : names ≡ all_names rules given
  pub are_rows : AreRows rules names rows
  pub is_judged : IsJudged given names judged
