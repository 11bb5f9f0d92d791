-- That a given start name is a rule's.
use Rattle.std.specs.Prelude.{◌≢◌, ℕ, List, Option, Some, None}
use Rattle.ruletable.specs.Rules.{Rules, find_in}
use Rattle.pegread.specs.declared.expr.Expr.{Expr}

-- a rule has the name, if one is given
abbrev pub IsGiven : Option (List ℕ) → Rules Expr → Type 0
IsGiven None rules = Unit {0}
IsGiven (Some name) rules = find_in rules name ≢ None
