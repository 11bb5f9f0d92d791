-- The names that the bodies of a grammar's rules use, in order.
use Rattle.std.specs.Prelude.{◌≡◌, ◌==◌, ℕ, List, [], ◌∷◌, ◌++◌, map, position, Some, bytes_eq}
use Rattle.std.specs.List.{flat_map, list_any}
use Rattle.ruletable.specs.Rules.{Rules, names_of}
use Rattle.ruletable.specs.declared.table.NameCase.TheVariants.{Exact}
use Rattle.pegread.specs.Pattern.{Pattern, Patterns, Any, Bytes, Set, Name, Seq, Choice, Star, Plus, Opt, And, Not, Act}
use Rattle.pegread.specs.Pattern.{Open, Close, none, more, Rule}
use Rattle.fixpoint.specs.FirstUses.{is_among, news}

-- the names in an expression, from left to right
abbrev mutual
  pub names_in : Pattern → List (List ℕ)
  names_in Any = []
  names_in (Bytes bytes) = []
  names_in (Set test) = []
  names_in (Name name) = name ∷ []
  names_in (Seq es) = names_in_all es
  names_in (Choice es) = names_in_all es
  names_in (Star e) = names_in e
  names_in (Plus e) = names_in e
  names_in (Opt e) = names_in e
  names_in (And e) = names_in e
  names_in (Not e) = names_in e
  names_in (Act template) = []
  names_in Open = []
  names_in Close = []

  pub names_in_all : Patterns → List (List ℕ)
  names_in_all none = []
  names_in_all (more e es) = names_in e ++ names_in_all es

-- the names in the bodies, rule by rule
abbrev pub names_used : List Rule → List (List ℕ)
names_used rules = flat_map (λ rule. names_in rule.body) rules

-- the names of the rules, in order of definition
abbrev pub rule_names : List Rule → List (List ℕ)
rule_names rules = map (λ rule. rule.name) rules

-- The missing names are those of the used ones that no rule has, in order of first use, and the id of a rule is among
-- the ids exactly where a used name is the rule's.
pub record AreUses (rules : List Rule) (used : List (List ℕ)) (ids : List ℕ) (missing : Rules (Unit {0})) : Type 0 where
  pub compares : missing.names ≡ Exact
  pub all : names_of missing ≡ news Exact (rule_names rules) used
  pub known : (name : List ℕ) (id : ℕ) → position (bytes_eq name) (rule_names rules) ≡ Some id
      → list_any (λ other. other == id) ids ≡ is_among Exact used name
