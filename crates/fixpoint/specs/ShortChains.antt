-- The one of the shortest chains to a number that is returned.
use Rattle.std.specs.Prelude.{◌≡◌, ℕ, suc, ◌≤◌, List, [], ◌∷◌, ◌++◌, length, Option, Some, MatchOption}
use Rattle.fixpoint.specs.StepRows.{Step}
use Rattle.fixpoint.specs.Way.{At}
use Rattle.fixpoint.specs.Distances.{AreDistances, Distance, Steps}
use Rattle.fixpoint.specs.declared.chains.Chains.{Chains}

module _ (rows : List (List ℕ)) (s : ℕ) where
  -- u is a step nearer to s than v, and that step leads from it to v
  pub record Nearer (v u : ℕ) : Type 0 where
    pub n : ℕ
    pub far : Distance rows s v (suc n)
    pub near : Distance rows s u n
    pub step : Step rows u v

  -- the least such number
  pub record Back (v u : ℕ) : Type 0 where
    pub nearer : Nearer v u
    pub first : (w : ℕ) → Nearer v w → u ≤ w

  -- the chain from s to v that has before each number the least one that is a step nearer
  pub data ChainTo : ℕ → List ℕ → Type 0 where
    at_start : ChainTo s (s ∷ [])
    after : {v u : ℕ} {ns : List ℕ} → Back v u → ChainTo u ns → ChainTo v (ns ++ v ∷ [])

  -- of each number that is not s and that a chain reaches the one before it, and of the others none
  pub record AreBacks (backs : List (Option ℕ)) : Type 0 where
    pub count : length backs ≡ length rows
    pub sound : (v u : ℕ) → At backs v (Some u) → Back v u
    pub whole : (v u : ℕ) → Nearer v u → (w : ℕ) × At backs v (Some w)

  -- the distances from s, and of each number the one before it
  pub record AreChains (chains : Chains) : Type 0 where
    pub far : AreDistances rows s chains.far.items
    pub backs : AreBacks chains.backs.items

  -- the chain to v, if one reaches it
  abbrev pub IsChainIfReached : ℕ → Option (List ℕ) → Type 0
  IsChainIfReached v chain = MatchOption chain ((n : ℕ) → Steps rows s v n → ⊥) (ChainTo v)

  -- a step leads back to s from u, to which n steps lead from s at least
  pub record IsWayBack (u n : ℕ) : Type 0 where
    pub far : Distance rows s u n
    pub step : Step rows u s

  -- u stands last on a shortest way back: it is the least of the nearest
  pub record IsLastBack (u : ℕ) : Type 0 where
    pub n : ℕ
    pub way : IsWayBack u n
    pub nearest : (w m : ℕ) → IsWayBack w m → n ≤ m
    pub first : (w : ℕ) → IsWayBack w n → u ≤ w

  -- the chain to it
  pub record IsRound (chain : List ℕ) : Type 0 where
    pub last : ℕ
    pub is_last : IsLastBack last
    pub is_chain : ChainTo last chain

  -- the way from s back to it, without the s at its end, if there is one
  abbrev pub IsRoundIfAny : Option (List ℕ) → Type 0
  IsRoundIfAny chain = MatchOption chain ((u n : ℕ) → IsWayBack u n → ⊥) IsRound
