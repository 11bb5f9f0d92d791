-- Whether prose stands in an element. Private helpers alone use it.
use Rattle.std.specs.Prelude.{Bool, true, false, ◌||◌, List, map}
use Rattle.abnfread.specs.Element.{Element, Elements, Text, Values, Range, Concat, Alt, Rep, Opt, Name, Prose, none}
use Rattle.abnfread.specs.Element.{more, Rule}

abbrev mutual
  pub prose_in : Element → Bool
  prose_in (Text folds text) = false
  prose_in (Values values) = false
  prose_in (Range low high) = false
  prose_in (Concat es) = prose_in_one es
  prose_in (Alt es) = prose_in_one es
  prose_in (Rep least most e) = prose_in e
  prose_in (Opt e) = prose_in e
  prose_in (Name name) = false
  prose_in (Prose text) = true

  pub prose_in_one : Elements → Bool
  prose_in_one none = false
  prose_in_one (more e es) = prose_in e || prose_in_one es

-- of each rule whether prose stands in its body
abbrev pub prose_marks : List Rule → List Bool
prose_marks rules = map (λ rule. prose_in rule.body) rules
