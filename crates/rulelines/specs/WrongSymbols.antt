-- The samples that are reported as symbols that cannot follow.
use Rattle.std.specs.Prelude.{◌≡◌, ◌⊎◌, ℕ, ◌+◌, ◌<◌, Bool, true, false, List, slice_get, Some, Contains}
use Rattle.rulelines.specs.Samples.{AreInLineOrder}

-- samples, and whether each of them leads on
module _ (samples : List ℕ) (live : List Bool) where
  -- one of them leads on, and its number is one more or less
  pub record IsBesideLive (c : ℕ) : Type 0 where
    pub index : ℕ
    pub symbol : ℕ
    pub is : slice_get samples index ≡ Some symbol
    pub leads : slice_get live index ≡ Some true
    pub beside : (symbol ≡ c + 1) ⊎ (c ≡ symbol + 1)

  module _ (edges : Bool) where
    -- the one of an index leads astray, and it is the first, or with edges next to one that leads on
    pub record IsWrongAt (i c : ℕ) : Type 0 where
      pub is : slice_get samples i ≡ Some c
      pub astray : slice_get live i ≡ Some false
      pub reason : ((j : ℕ) → j < i → slice_get live j ≡ Some true) ⊎ ((edges ≡ true) × IsBesideLive c)

    -- those of the first n samples, in their order
    pub record AreWrongTo (n : ℕ) (symbols : List ℕ) : Type 0 where
      pub only : (c : ℕ) → Contains symbols c → (i : ℕ) × (i < n) × IsWrongAt i c
      pub all : (i c : ℕ) → i < n → IsWrongAt i c → Contains symbols c
      pub order : (has : ℕ → Bool) → AreInLineOrder has samples → AreInLineOrder has symbols
