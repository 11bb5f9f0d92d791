-- Symbols that stand for all symbols of their class, in the order of lines.
use Rattle.std.specs.Prelude.{◌≡◌, ◌⊎◌, ℕ, ◌-◌, ◌<◌, Bool, true, List, [], ◌∷◌, slice_get, Some, Contains}
use Rattle.std.specs.Prelude.{if◌then◌else◌, ltb, eqb}
use Rattle.flatgrammar.specs.Flat.{Flat}
use Rattle.flatgrammar.specs.ClassBounds.{AreNodesSplit}
use Rattle.rulelines.specs.FirstLines.{sort_key}

-- the samples are symbols, and come in the order of lines
pub record AreInLineOrder (has : ℕ → Bool) (samples : List ℕ) : Type 0 where
  pub symbols : (c : ℕ) → Contains samples c → has c ≡ true
  pub order : (i j c d : ℕ) → i < j → slice_get samples i ≡ Some c → slice_get samples j ≡ Some d
      → sort_key c < sort_key d

-- where the order of symbols or an alphabet changes
abbrev pub cuts : List ℕ
cuts = 0 ∷ 32 ∷ 33 ∷ 127 ∷ 57344 ∷ []

-- the sets of both grammars, the order of symbols and the alphabets change at these numbers alone
pub record AreCommonBounds (old new : Flat) (bounds : List ℕ) : Type 0 where
  pub old_split : AreNodesSplit bounds old.nodes
  pub new_split : AreNodesSplit bounds new.nodes
  pub cuts_are : (c : ℕ) → Contains cuts c → Contains bounds c

-- the keys of those bounds that are symbols
pub record AreKeysOf (has : ℕ → Bool) (bounds keys : List ℕ) : Type 0 where
  pub only : (k : ℕ) → Contains keys k → (b : ℕ) × Contains bounds b × (has b ≡ true) × (k ≡ sort_key b)
  pub all : (b : ℕ) → Contains bounds b → has b ≡ true → Contains keys (sort_key b)

-- the key of a number was added, if it is a symbol
pub record IsKeyAdded (has : ℕ → Bool) (b : ℕ) (old new : List ℕ) : Type 0 where
  pub only : (k : ℕ) → Contains new k → Contains old k ⊎ ((has b ≡ true) × (k ≡ sort_key b))
  pub kept : (k : ℕ) → Contains old k → Contains new k
  pub added : has b ≡ true → Contains new (sort_key b)

-- the symbol of a key
abbrev pub symbol_of : ℕ → ℕ
symbol_of k = if ltb k 127 then k else (if eqb k 127 then 32 else k - 128)
