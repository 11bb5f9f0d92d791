-- ABNF elements (RFC 5234, sections 2 to 4; RFC 7405), and rules by name.
use Rattle.std.specs.Prelude.{ℕ, ◌+◌, Bool, List, [], ◌∷◌, map, Option, Some, None, if◌then◌else◌}
use Rattle.ruletable.specs.Rules as table
use Rattle.ruletable.specs.Rules.{same_name}
use Rattle.ruletable.specs.declared.span.Span.{Span}
use Rattle.ruletable.specs.declared.table.NameCase.TheVariants.{Fold}

mutual
  pub data Element : Type 0 where
    -- a text; where it folds, its letters stand for either case
    Text : (folds : Bool) → (text : List ℕ) → Element
    -- these values, in order
    Values : List ℕ → Element
    -- one value from low to high
    Range : (low : ℕ) → (high : ℕ) → Element
    -- all members, in order
    Concat : Elements → Element
    -- one of the alternatives
    Alt : Elements → Element
    -- at least so many, and at most so many if there is a bound
    Rep : (least : ℕ) → (most : Option ℕ) → Element → Element
    -- once or not at all
    Opt : Element → Element
    -- the rule of that name
    Name : List ℕ → Element
    Prose : List ℕ → Element

  -- the members of a concatenation, or the alternatives
  pub data Elements : Type 0 where
    none : Elements
    more : Element → Elements → Elements

-- these elements, and then those
abbrev pub append : Elements → Elements → Elements
append none ys = ys
append (more x xs) ys = more x (append xs ys)

-- a rule: its name, its body, and where the name of its definition stands
abbrev pub Rule : Type 0
Rule = table.Rule Element

-- the bodies of the rules, in order
abbrev pub bodies : List Rule → List Element
bodies rules = map (λ rule. rule.body) rules

-- the body of the first rule of that name, in whatever case
abbrev pub body_of : List Rule → List ℕ → Option Element
body_of [] name = None
body_of (rule ∷ rules) name = if same_name Fold name rule.name then Some rule.body else body_of rules name

-- its id, or the number of rules
abbrev pub id_of : List Rule → List ℕ → ℕ
id_of [] name = 0
id_of (rule ∷ rules) name = if same_name Fold name rule.name then 0 else id_of rules name + 1

-- a definition of a file: whether it adds alternatives (`=/`), its name, where that name stands, and its body
pub record Definition : Type 0 where
  pub adds : Bool
  pub name : List ℕ
  pub span : Span
  pub body : Element
