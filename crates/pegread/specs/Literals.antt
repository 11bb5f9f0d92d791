-- What a literal spells.
use Prim.Native.Char.{code}
use Rattle.std.specs.Prelude.{◌≡◌, ℕ, List, [], ◌∷◌, ◌++◌}
use Rattle.pegread.specs.Chars.{Chars}
use Rattle.pegread.specs.Slices.{Closes}

-- the slice of a literal: a quote, and what follows up to the next such quote that no escape takes, which ends it
pub data IsLiteral : List ℕ → Type 0 where
  single_quoted : {bs : List ℕ} → Closes (code "'") bs [] → IsLiteral (code "'" ∷ bs)
  double_quoted : {bs : List ℕ} → Closes (code "\"") bs [] → IsLiteral (code "\"" ∷ bs)

-- a literal's slice, which is a mark, some text and the mark again, and the bytes that the text spells
pub record SpellsBytes (slice bytes : List ℕ) : Type 0 where
  pub mark : ℕ
  pub inside : List ℕ
  pub cut : slice ≡ mark ∷ (inside ++ mark ∷ [])
  pub chars : Chars inside bytes
