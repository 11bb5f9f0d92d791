-- What the slices of a text's literals, classes and actions are.
use Rattle.std.specs.Prelude.{ℕ, List}
use Rattle.pegread.specs.declared.kind.Kind.{Kind}
use Rattle.pegread.specs.declared.kind.Kind.TheVariants.{Literal, Class, Action}
use Rattle.pegread.specs.Actions.{IsBraced}
use Rattle.pegread.specs.Classes.{IsClass}
use Rattle.pegread.specs.Literals.{IsLiteral}

-- the slice is one that a token of that kind can have
abbrev pub IsCut : Kind → List ℕ → Type 0
IsCut Literal z = IsLiteral z
IsCut Class z = IsClass z
IsCut Action z = IsBraced z
IsCut _ z = Unit {0}
