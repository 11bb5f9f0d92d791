-- The names that stand in the bodies of rules, in order.
use Rattle.std.specs.Prelude.{◌≡◌, ℕ, List, [], ◌∷◌, ◌++◌, map, slice_get, Some}
use Rattle.std.specs.List.{flat_map}
use Rattle.abnfread.specs.Element.{Element, Elements, Text, Values, Range, Concat, Alt, Rep, Opt, Name, Prose, none}
use Rattle.abnfread.specs.Element.{more, Rule, bodies, id_of}
use Rattle.abnfcheck.specs.AbnfGrammar.{Within}

-- the names in an element, from left to right
abbrev mutual
  pub names_in : Element → List (List ℕ)
  names_in (Text folds text) = []
  names_in (Values values) = []
  names_in (Range low high) = []
  names_in (Concat es) = names_in_all es
  names_in (Alt es) = names_in_all es
  names_in (Rep least most e) = names_in e
  names_in (Opt e) = names_in e
  names_in (Name name) = name ∷ []
  names_in (Prose text) = []

  pub names_in_all : Elements → List (List ℕ)
  names_in_all none = []
  names_in_all (more e es) = names_in e ++ names_in_all es

-- the names in the bodies, rule by rule
abbrev pub names_used : List Rule → List (List ℕ)
names_used rules = flat_map (λ rule. names_in rule.body) rules

-- the names of the rules, in order
abbrev pub rule_names : List Rule → List (List ℕ)
rule_names rules = map (λ rule. rule.name) rules

-- a name of the rule with the second id stands in the body of the rule with the first; the number of rules stands for a
-- name without a rule
pub record Uses (rules : List Rule) (user id : ℕ) : Type 0 where
  pub body : Element
  pub name : List ℕ
  pub body_is : slice_get (bodies rules) user ≡ Some body
  pub within : Within body (Name name)
  pub id_is : id_of rules name ≡ id

-- prose stands in the body of the rule with that id
pub record HoldsProse (rules : List Rule) (id : ℕ) : Type 0 where
  pub body : Element
  pub text : List ℕ
  pub body_is : slice_get (bodies rules) id ≡ Some body
  pub within : Within body (Prose text)
