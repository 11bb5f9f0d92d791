-- Pairs of states in the order in which a breadth-first search finds them.
use Rattle.std.specs.Prelude.{◌≡◌, ◌⊎◌, ℕ, ◌<◌, ◌≤◌, Bool, true, List, [], ◌∷◌, ◌++◌, slice_get, Some, Contains}
use Rattle.flatgrammar.specs.Flat.{Flat, Dot}
use Rattle.rulelines.specs.FirstLines.{sort_key}
use Rattle.rulelines.specs.StatePairs.{IsStartPair, PairLeads, StatePair}

-- a pair of states, the index of the pair that it was found from, and the symbol that leads from there
pub record FoundPair : Type 0 where
  pub pair : StatePair
  pub parent : ℕ
  pub symbol : ℕ

-- the symbols that lead to the pair of that index: none to the first one, else those to its parent and its own
pub data IsWordOf (found : List FoundPair) : ℕ → List ℕ → Type 0 where
  start : IsWordOf found 0 []
  next : {i : ℕ} {e : FoundPair} {w : List ℕ} → slice_get found i ≡ Some e → e.parent < i → IsWordOf found e.parent w
      → IsWordOf found i (w ++ e.symbol ∷ [])

-- the pair was found from an earlier parent, or from the same one by an earlier symbol
abbrev pub IsFoundBefore : FoundPair → FoundPair → Type 0
IsFoundBefore e f = (e.parent < f.parent) ⊎ ((e.parent ≡ f.parent) × (sort_key e.symbol < sort_key f.symbol))

-- no stack of the old state is left
abbrev pub IsOldDead : StatePair → Type 0
IsOldDead p = p.old ≡ []

-- in the first n pairs the new whole is done where the old one is
abbrev pub EndWithNew : List FoundPair → ℕ → Type 0
EndWithNew found n = (i : ℕ) (e : FoundPair) → i < n → slice_get found i ≡ Some e → e.pair.old_ended ≡ true
    → e.pair.new_ended ≡ true

module _ (old : Flat) (old_last : Dot → Bool) (new : Flat) (new_last : Dot → Bool) (found : List FoundPair) where
  -- the pair of that index was found from an earlier one, by a symbol of the alphabet
  pub record HasParent (has : ℕ → Bool) (i : ℕ) (e : FoundPair) : Type 0 where
    pub earlier : e.parent < i
    pub parent : FoundPair
    pub is : slice_get found e.parent ≡ Some parent
    pub symbol : has e.symbol ≡ true
    pub leads : PairLeads old old_last new new_last e.symbol parent.pair e.pair

  -- the start states come first, the other pairs in the order of their parents and symbols
  pub record AreFound (has : ℕ → Bool) : Type 0 where
    pub first : FoundPair
    pub is_first : slice_get found 0 ≡ Some first
    pub starts : IsStartPair old old_last new new_last first.pair
    pub parents : (i : ℕ) (e : FoundPair) → 0 < i → slice_get found i ≡ Some e → HasParent has i e
    pub order : (i j : ℕ) (e f : FoundPair) → 0 < i → i < j → slice_get found i ≡ Some e → slice_get found j ≡ Some f
        → IsFoundBefore e f

  -- the symbol leads from the pair of that index to one that was found from there by the symbol, or before that
  pub record LeadsToFound (i : ℕ) (e : FoundPair) (c : ℕ) : Type 0 where
    pub index : ℕ
    pub next : FoundPair
    pub is : slice_get found index ≡ Some next
    pub leads : PairLeads old old_last new new_last c e.pair next.pair
    pub order : (index ≡ 0) ⊎ ((next.parent < i) ⊎ ((next.parent ≡ i) × (sort_key next.symbol ≤ sort_key c)))

  -- each sample leads on from the first n pairs, but for the dead ones
  abbrev pub AreSearched : (StatePair → Type 0) → List ℕ → ℕ → Type 0
  AreSearched dead samples n = (i : ℕ) (e : FoundPair) → i < n → slice_get found i ≡ Some e → (c : ℕ)
      → Contains samples c → dead e.pair ⊎ LeadsToFound i e c
