-- How many dotted rules the nodes of elements have.
use Rattle.std.specs.Prelude.{ℕ, ◌+◌, ◌*◌, List, [], ◌∷◌, length}
use Rattle.abnfread.specs.Element as e
use Rattle.abnfread.specs.Element.{Element, Elements, none, more}
use Rattle.flatgrammar.specs.Flat.{top, capped}

abbrev pub count : Elements → ℕ
count none = 0
count (more el es) = count es + 1

-- the dotted rules of an element, with all that stand in it, for lines within the limit
abbrev mutual
  pub size : ℕ → Element → ℕ
  size limit (e.Text folds text) = length text + 1
  size limit (e.Values vs) = length vs + 1
  size limit (e.Range low high) = 2
  size limit (e.Concat es) = count es + 1 + size_all limit es
  size limit (e.Alt es) = 2 * count es + size_all limit es
  size limit (e.Rep a b el) = capped limit (top a b) + 1 + size limit el
  size limit (e.Opt el) = 3 + size limit el
  size limit (e.Name n) = 0
  size limit (e.Prose text) = 0

  pub size_all : ℕ → Elements → ℕ
  size_all limit none = 0
  size_all limit (more el es) = size limit el + size_all limit es

abbrev pub sizes : ℕ → List Element → ℕ
sizes limit [] = 0
sizes limit (el ∷ els) = size limit el + sizes limit els
