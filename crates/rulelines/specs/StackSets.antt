-- What states accept, and pairs of states that are cut into tops and suffixes below them.
use Rattle.std.specs.Prelude.{◌≡◌, ℕ, ◌<◌, Bool, true, false, List, [], ◌∷◌, slice_get, Some, Contains}
use Rattle.flatgrammar.specs.Flat.{Flat, Dot, Set, Has, Reads, Starts}
use Rattle.flatgrammar.specs.Stacks.{IsDoneAt, IsReading, Moves}
use Rattle.lazydfa.specs.StackCuts.{AreAllJoined, AreFull, IsStateFrom, IsTopOnSuffix}
use Rattle.rulelines.specs.FoundPairs.{IsOldDead}
use Rattle.rulelines.specs.StatePairs.{LeadsInto, StatePair}

module _ (flat : Flat) (last : Dot → Bool) where
  -- a stack comes to its end by these symbols
  pub data Drains : List Dot → List ℕ → Type 0 where
    done : {p : Dot} → IsDoneAt flat p → Drains (p ∷ []) []
    moves : {s t : List Dot} {w : List ℕ} → Moves flat last s t → Drains t w → Drains s w
    reads : {q r : Dot} {set : Set} {below : List Dot} {c : ℕ} {w : List ℕ} → Reads flat q set r → Has set c
        → Drains (r ∷ below) w → Drains (q ∷ below) (c ∷ w)

  -- one of some stacks does
  pub record SomeDrains (from : List Dot → Type 0) (w : List ℕ) : Type 0 where
    pub stack : List Dot
    pub is : from stack
    pub drains : Drains stack w

  -- a state accepts these symbols: there are none and the whole is done, or one of its stacks comes to its end
  pub data StateAccepts (tops : List (List Dot)) (ended : Bool) : List ℕ → Type 0 where
    ends : ended ≡ true → StateAccepts tops ended []
    by_stack : {w : List ℕ} → SomeDrains (Contains tops) w → StateAccepts tops ended w

-- the old state of the other pair has all stacks of this one's, and its new state has no more than this one's
pub record AsksMore (other pair : StatePair) : Type 0 where
  pub old_are : (stack : List Dot) → Contains pair.old stack → Contains other.old stack
  pub old_ends : pair.old_ended ≡ true → other.old_ended ≡ true
  pub new_are : (stack : List Dot) → Contains other.new stack → Contains pair.new stack
  pub new_ends : other.new_ended ≡ true → pair.new_ended ≡ true

module _ (old : Flat) (old_last : Dot → Bool) (new : Flat) (new_last : Dot → Bool) where
  -- A pair of states is cut into a pair of tops and a pair of what follows from their suffixes. Each old stack is an
  -- old top on an old suffix, and each new top on each new suffix is a new stack. No old suffix comes to its end
  -- without a symbol.
  pub record IsCutInto (pair tops below : StatePair) : Type 0 where
    pub old_suffixes : List (List Dot)
    pub new_suffixes : List (List Dot)
    pub runs : pair.old_ended ≡ false
    pub new_tops_run : tops.new_ended ≡ false
    pub below_runs : below.old_ended ≡ false
    pub split : (stack : List Dot) → Contains pair.old stack → IsTopOnSuffix tops.old old_suffixes stack
    pub old_full : AreFull old_suffixes
    pub new_full : AreFull new_suffixes
    pub joined : AreAllJoined tops.new new_suffixes pair.new
    pub old_below : IsStateFrom old old_last (Contains old_suffixes) below.old below.old_ended
    pub new_below : IsStateFrom new new_last (Contains new_suffixes) below.new below.new_ended

  module _ (samples : List ℕ) (pairs : List StatePair) where
    -- the pair of an index follows from pairs: no old stack is left, or each sample leads to one of them, or both pairs
    -- that it is cut into are among them, or an earlier one asks more
    pub data IsFollowed (i : ℕ) (p : StatePair) : Type 0 where
      dead : IsOldDead p → IsFollowed i p
      leads : ((c : ℕ) → Contains samples c → LeadsInto old old_last new new_last pairs c p) → IsFollowed i p
      cut : {tops below : StatePair} → IsCutInto p tops below → Contains pairs tops → Contains pairs below
          → IsFollowed i p
      more : {j : ℕ} {other : StatePair} → j < i → slice_get pairs j ≡ Some other → AsksMore other p
          → IsFollowed i p

    -- the new whole is done where the old one is, and each pair follows from them
    pub record AreClosedByCuts : Type 0 where
      pub ends : (p : StatePair) → Contains pairs p → p.old_ended ≡ true → p.new_ended ≡ true
      pub reading : (p : StatePair) → Contains pairs p → (top : List Dot) → Contains p.old top → IsReading old top
      pub followed : (i : ℕ) (p : StatePair) → slice_get pairs i ≡ Some p → IsFollowed i p

-- a stack where a whole begins
pub data IsStartStack (flat : Flat) : List Dot → Type 0 where
  is_start : {p : Dot} → Starts flat flat.start p → IsStartStack flat (p ∷ [])
