-- Symbols that are not alike to an earlier one of a list.
use Rattle.std.specs.Prelude.{◌≡◌, ℕ, ◌<◌, List, slice_get, Some, Contains}

module _ (alike : ℕ → ℕ → Type 0) (symbols : List ℕ) where
  -- one of them is alike to a symbol
  abbrev pub HasAlike : ℕ → Type 0
  HasAlike c = (b : ℕ) × Contains symbols b × alike b c

  -- the one of an index is alike to none before it
  pub record IsNewAt (i c : ℕ) : Type 0 where
    pub is : slice_get symbols i ≡ Some c
    pub apart : (j b : ℕ) → j < i → slice_get symbols j ≡ Some b → alike b c → ⊥

  -- those of the first n
  pub record AreNewTo (n : ℕ) (news : List ℕ) : Type 0 where
    pub only : (c : ℕ) → Contains news c → (i : ℕ) × (i < n) × IsNewAt i c
    pub all : (i c : ℕ) → i < n → IsNewAt i c → Contains news c
