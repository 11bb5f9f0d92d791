-- Repeat counts within a limit.
use Rattle.std.specs.Prelude.{ℕ, ◌≤◌, List, slice_get, Option, None, Some, ◌≡◌}
use Rattle.abnfread.specs.Element as e
use Rattle.abnfread.specs.Element.{bodies, Element, Elements, more, none, Rule}

-- the upper count, if there is one
abbrev pub MostWithin : ℕ → Option ℕ → Type 0
MostWithin limit None = Unit {0}
MostWithin limit (Some most) = most ≤ limit

-- no repeat count in an element is greater than the limit
abbrev mutual
  pub CountsWithin : ℕ → Element → Type 0
  CountsWithin limit (e.Text folds text) = Unit {0}
  CountsWithin limit (e.Values vs) = Unit {0}
  CountsWithin limit (e.Range low high) = Unit {0}
  CountsWithin limit (e.Concat es) = AllCountsWithin limit es
  CountsWithin limit (e.Alt es) = AllCountsWithin limit es
  CountsWithin limit (e.Rep a b el) = (a ≤ limit) × MostWithin limit b × CountsWithin limit el
  CountsWithin limit (e.Opt el) = CountsWithin limit el
  CountsWithin limit (e.Name n) = Unit {0}
  CountsWithin limit (e.Prose text) = Unit {0}

  pub AllCountsWithin : ℕ → Elements → Type 0
  AllCountsWithin limit none = Unit {0}
  AllCountsWithin limit (more el es) = CountsWithin limit el × AllCountsWithin limit es

-- nor in a body of the rules
abbrev pub RuleCountsWithin : ℕ → List Rule → Type 0
RuleCountsWithin limit rules = (id : ℕ) (el : Element) → slice_get (bodies rules) id ≡ Some el → CountsWithin limit el
