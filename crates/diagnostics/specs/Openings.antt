-- What a token begins with the one before it. It serves private helpers alone.
use Rattle.std.specs.Prelude.{◌≡◌, ℕ, Bool, List, Option, Some, None}
use Rattle.diagnostics.specs.DefinitionHeads.{SignAt, begun_by}

-- whether a definition adds to a rule, if a token begins one with that before it
abbrev pub opens : Option SignAt → SignAt → Option Bool
opens None u = None
opens (Some t) u = begun_by t.sign u.sign

-- the name of that definition, where it begins, and whether the definition adds to a rule
pub record BeginsHead (before : Option SignAt) (u : SignAt) (name : List ℕ) (start : ℕ) (adds : Bool)
    : Type 0 where
  pub name_token : SignAt
  pub there : before ≡ Some name_token
  pub opened : begun_by name_token.sign u.sign ≡ Some adds
  pub name_is : name ≡ name_token.slice
  pub start_is : start ≡ name_token.start
