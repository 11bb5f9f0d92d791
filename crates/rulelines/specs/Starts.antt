-- Keys at which classes of symbols start, in the order of lines.
use Rattle.std.specs.Prelude.{◌≡◌, ◌⊎◌, ℕ, ◌+◌, ◌≤◌, Bool, true, List, [], ◌∷◌, slice_get, Some, Contains}
use Rattle.flatgrammar.specs.Flat.{Flat}
use Rattle.flatgrammar.specs.ClassBounds.{AreNodesSplit}
use Rattle.flatgrammar.specs.Stacks.{AreAlike}
use Rattle.rulelines.specs.FirstLines.{sort_key}

-- the symbol before it is in the same sets
pub record IsJoinedOn (flat : Flat) (has : ℕ → Bool) (c : ℕ) : Type 0 where
  pub before : ℕ
  pub symbol : has before ≡ true
  pub next : sort_key c ≡ sort_key before + 1
  pub alike : AreAlike flat c before

-- the key of each symbol is a start, or the symbol before it is in the same sets
abbrev pub AreClassStarts : Flat → (ℕ → Bool) → List ℕ → Type 0
AreClassStarts flat has starts = (c : ℕ) → has c ≡ true → Contains starts (sort_key c) ⊎ IsJoinedOn flat has c

-- of two symbols whose numbers follow, both are among these, or no set tells them apart
abbrev pub HaveBothEnds : Flat → (ℕ → Bool) → List ℕ → Type 0
HaveBothEnds flat has symbols = (c : ℕ) → has c ≡ true → has (c + 1) ≡ true
    → AreAlike flat (c + 1) c ⊎ (Contains symbols c × Contains symbols (c + 1))

-- .. by their keys
abbrev pub HaveBothKeys : Flat → (ℕ → Bool) → List ℕ → Type 0
HaveBothKeys flat has keys = (c : ℕ) → has c ≡ true → has (c + 1) ≡ true
    → AreAlike flat (c + 1) c ⊎ (Contains keys (sort_key c) × Contains keys (sort_key (c + 1)))

-- where the order of symbols, the alphabets or the symbols of a line change
abbrev pub edges : ℕ → List ℕ
edges terminator = 0 ∷ 32 ∷ 33 ∷ 127 ∷ 57344 ∷ terminator ∷ (terminator + 1) ∷ []

-- the sets, the order of symbols, the alphabets and the symbols of a line change at these numbers alone
pub record AreLineBounds (flat : Flat) (terminator : ℕ) (bounds : List ℕ) : Type 0 where
  pub split : AreNodesSplit bounds flat.nodes
  pub edges_are : (c : ℕ) → Contains (edges terminator) c → Contains bounds c

-- each bound, and the number before it
pub record HaveEnds (bounds all : List ℕ) : Type 0 where
  pub kept : (b : ℕ) → Contains bounds b → Contains all b
  pub before : (b : ℕ) → Contains bounds (b + 1) → Contains all b

-- the keys of those bounds that are symbols
abbrev pub HaveKeys : (ℕ → Bool) → List ℕ → List ℕ → Type 0
HaveKeys has bounds keys = (b : ℕ) → Contains bounds b → has b ≡ true → Contains keys (sort_key b)

-- the index of the last start up to a key
pub record IsLastUpTo (starts : List ℕ) (key j : ℕ) : Type 0 where
  pub start : ℕ
  pub is : slice_get starts j ≡ Some start
  pub within : start ≤ key
  pub last : (s : ℕ) → Contains starts s → s ≤ key → s ≤ start
