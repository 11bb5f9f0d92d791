-- The table of a list of definitions: of each name the first one stands.
use Rattle.std.specs.Prelude.{◌≡◌, ℕ, List, [], ◌∷◌, ◌++◌, position, bytes_eq, Option, Some, None}
use Rattle.ruletable.specs.Rules as table
use Rattle.ruletable.specs.declared.table.NameCase.TheVariants.{Exact}
use Rattle.pegread.specs.declared.expr.Expr.{Expr}
use Rattle.pegread.specs.Pattern.{Rule}
use Rattle.pegread.specs.PegViews.{rules_of}

-- the position of the rule of that name among these
abbrev pub id_in : List Rule → List ℕ → Option ℕ
id_in rules n = position (λ rule. bytes_eq n rule.name) rules

-- the definitions whose name neither a known rule nor an earlier definition has
abbrev pub firsts : List Rule → List Rule → List Rule
firsts known [] = []
firsts known (d ∷ ds) = elim (id_in known d.name) [ None ↦ d ∷ firsts (known ++ d ∷ []) ds | Some id ↦ firsts known ds ]

-- of each other definition the id of the rule whose name it has, in order
abbrev pub agains : List Rule → List Rule → List ℕ
agains known [] = []
agains known (d ∷ ds) = elim (id_in known d.name) [
  | None ↦ agains (known ++ d ∷ []) ds
  | Some id ↦ id
      ∷ agains known ds
]

-- the rules are the first definitions of each name, and the ids are those that are defined again
pub record IsTableOf (definitions : List Rule) (rules : table.Rules Expr) (redefined : List ℕ) : Type 0 where
  pub names : rules.names ≡ Exact
  pub kept : rules_of rules ≡ firsts [] definitions
  pub again : redefined ≡ agains [] definitions
