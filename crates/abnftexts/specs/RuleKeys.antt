-- What rules that are the same have in common. It serves private helpers alone.
use Prim.Native.Char.{code}
use Rattle.std.specs.Prelude.{ℕ, Bool, List, [], ◌∷◌, ◌++◌, decimal, if◌then◌else◌}
use Rattle.std.specs.List.{flat_map}
use Rattle.std.specs.Option.{unwrap_or}
use Rattle.std.specs.Str.{str_to_ascii_lowercase}
use Rattle.abnfread.specs.Element.{Element, Elements, Text, Values, Range, Concat, Alt, Rep, Opt, Name, Prose, none}
use Rattle.abnfread.specs.Element.{more}
use Rattle.abnftexts.specs.GivenRules.{RuleGiven}

-- a text as it is, and in lower case, each after a mark
abbrev pub exact_key : ℕ → List ℕ → List ℕ
exact_key mark text = mark ∷ (text ++ code "\n" ∷ [])

abbrev pub folded_key : ℕ → List ℕ → List ℕ
folded_key mark text = mark ∷ (str_to_ascii_lowercase text ++ code "\n" ∷ [])

-- numbers after a mark
abbrev pub numbers_key : ℕ → List ℕ → List ℕ
numbers_key mark numbers = mark ∷ flat_map (λ n. decimal n ++ code "." ∷ []) numbers

abbrev mutual
  pub element_key : Element → List ℕ
  element_key (Text folds text) = if folds then folded_key (code "\"") text else exact_key (code "'") text
  element_key (Values values) = numbers_key (code "%") values
  element_key (Range low high) = numbers_key (code "-") (low ∷ high ∷ [])
  element_key (Concat es) = code "(" ∷ members_key es
  element_key (Alt es) = code "/" ∷ members_key es
  element_key (Rep least most e) = numbers_key (code "*") (least ∷ unwrap_or most 4294967295 ∷ []) ++ element_key e
  element_key (Opt e) = code "[" ∷ element_key e
  element_key (Name name) = folded_key (code "n") name
  element_key (Prose text) = exact_key (code "<") text

  pub members_key : Elements → List ℕ
  members_key none = code ")" ∷ []
  members_key (more e es) = element_key e ++ members_key es

-- what a rule's key begins with: whether it adds, and whether it is prose alone
abbrev pub rule_mark : Bool → Bool → ℕ
rule_mark adds is_prose = if adds then code "+" else if is_prose then code "<" else code "="

abbrev pub rule_key : RuleGiven → List ℕ
rule_key rule = folded_key (rule_mark rule.adds rule.is_prose) rule.name ++ element_key rule.body
