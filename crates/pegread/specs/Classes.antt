-- What a class spells: a set of bytes, as a test of the numbers from 0 to 255.
use Prim.Native.Char.{code}
use Rattle.std.specs.Prelude.{◌≡◌, ℕ, ◌||◌, ◌&&◌, nat_le, nat_lt, not, cond, Bool, false, List, [], ◌∷◌, ◌++◌}
use Rattle.lexer.specs.SliceEnds.{Lacks}
use Rattle.pegread.specs.Chars.{Char}
use Rattle.pegread.specs.Slices.{Closes}

-- the slice of a class: a bracket, and what follows up to the next closing bracket that no escape takes, which ends it.
-- It ends there also after a `-`, a rule of our own: no plain `]` ends a range.
pub data IsClass : List ℕ → Type 0 where
  bracketed : {bs : List ℕ} → Closes (code "]") bs [] → IsClass (code "[" ∷ bs)

-- a plain `-` stands there, and more of the class after it
abbrev pub GoesOn : List ℕ → Type 0
GoesOn [] = ⊥
GoesOn (b ∷ []) = ⊥
GoesOn (b ∷ c ∷ cs) = b ≡ code "-"

-- An item at the front of a class's inside: the text, what follows the item, and the item's first and last byte.
-- The inside is without the brackets, so a `-` that ends it makes no range, a rule of our own.
pub data Item : List ℕ → List ℕ → ℕ → ℕ → Type 0 where
  -- one character, a `-` too
  item_char : {t r : List ℕ} {a : ℕ} → Char t r a → (GoesOn r → ⊥) → Item t r a a
  -- a character, a plain `-`, and a character
  item_range : {t m r : List ℕ} {a b : ℕ} → Char t (code "-" ∷ m) a → Char m r b → Item t r a b

-- the items of a whole inside, one after the other: the first and the last byte of each
pub data Ranges : List ℕ → List (ℕ × ℕ) → Type 0 where
  no_items : Ranges [] []
  more_items : {t r : List ℕ} {a b : ℕ} {xs : List (ℕ × ℕ)} → Item t r a b → Ranges r xs → Ranges t ((a, b) ∷ xs)

-- a number from the first to the last; none where the first exceeds the last, a rule of our own
abbrev pub in_range : ℕ × ℕ → ℕ → Bool
in_range x b = nat_le x.0 b && nat_le b x.1

-- a number of one of the ranges
abbrev pub in_ranges : List (ℕ × ℕ) → ℕ → Bool
in_ranges [] b = false
in_ranges (x ∷ xs) b = in_range x b || in_ranges xs b

-- the numbers from 0 to 255 that pass the test
abbrev pub bytes_in : (ℕ → Bool) → ℕ → Bool
bytes_in f b = cond (nat_lt b 256) (f b) false

-- the numbers from 0 to 255 that don't
abbrev pub complement : (ℕ → Bool) → ℕ → Bool
complement f b = cond (nat_lt b 256) (not (f b)) false

-- no `^` begins it
abbrev pub NoHat : List ℕ → Type 0
NoHat = Lacks (code "^")

-- a class's slice, and its set
pub data SpellsSet : List ℕ → (ℕ → Bool) → Type 0 where
  -- the bytes of its items
  positive : {inside : List ℕ} {f : ℕ → Bool} {xs : List (ℕ × ℕ)} (slice : List ℕ) → slice ≡ code "["
      ∷ (inside ++ code "]" ∷ []) → NoHat inside → Ranges inside xs → ((b : ℕ) → f b ≡ bytes_in (in_ranges xs) b)
      → SpellsSet slice f
  -- all other bytes, where a plain `^` directly follows the bracket
  negative : {inside : List ℕ} {f : ℕ → Bool} {xs : List (ℕ × ℕ)} (slice : List ℕ) → slice ≡ code "[" ∷ code "^"
      ∷ (inside ++ code "]" ∷ []) → Ranges inside xs → ((b : ℕ) → f b ≡ complement (in_ranges xs) b) → SpellsSet slice f

-- the ranges that an inside spells, and the test of their numbers
pub record SpellsItems (inside : List ℕ) (f : ℕ → Bool) : Type 0 where
  pub items : List (ℕ × ℕ)
  pub ranges : Ranges inside items
  pub same : (b : ℕ) → f b ≡ in_ranges items b
