-- What a name is.
use Rattle.std.specs.Prelude.{◌≡◌, ℕ, true, List, [], ◌∷◌}
use Rattle.pegread.specs.Slices.{starts_name, Names}

-- the slice of an identifier: a letter or `_`, and then letters, digits and `_` up to its end
pub data IsName : List ℕ → Type 0 where
  named : {b : ℕ} {bs : List ℕ} → starts_name b ≡ true → Names bs [] → IsName (b ∷ bs)
