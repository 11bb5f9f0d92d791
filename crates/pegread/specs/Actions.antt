-- What the slice of an action is.
use Prim.Native.Char.{code}
use Rattle.std.specs.Prelude.{◌≡◌, ℕ, List, [], ◌∷◌, ◌++◌}
use Rattle.pegread.specs.Slices.{Body}

-- the slice of an action: a brace, and what follows up to the brace that matches it, which ends it
pub data IsAction : List ℕ → Type 0 where
  braced : {bs : List ℕ} → Body bs [] → IsAction (code "{" ∷ bs)

-- some text, the action's template, between two braces
abbrev pub IsBraced : List ℕ → Type 0
IsBraced z = (t : List ℕ) × (z ≡ code "{" ∷ (t ++ code "}" ∷ []))
