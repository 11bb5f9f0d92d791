-- Stacks that dominate others: what can follow a stack can follow those that dominate it.
use Rattle.std.specs.Prelude.{◌≡◌, ◌↔◌, ◌⊎◌, ℕ, ◌≤◌, Bool, true, List, [], ◌∷◌, ◌++◌, slice_get, Option, Some, Contains}
use Rattle.flatgrammar.specs.Flat.{Flat, Dot, at, Rep, top}
use Rattle.flatgrammar.specs.NodeSteps.{flat_of}
use Rattle.flatgrammar.specs.declared.tables.Tables as code_flat
use Rattle.flatgrammar.specs.Stacks.{IsDoneAt, IsReading, Led, Lifted, Reach, Accepts, Empties}
use Rattle.lazydfa.specs.declared.conts.Cont.{Cont}
use Rattle.lazydfa.specs.Conts.{stack_of, IsTransition}

-- in one repetition, after no more iterations than the other, and with enough of them
pub record IsFewer (flat : Flat) (p q : Dot) : Type 0 where
  pub node : ℕ
  pub few : ℕ
  pub many : ℕ
  pub least : ℕ
  pub most : Option ℕ
  pub operand : ℕ
  pub p_is : p ≡ at node few
  pub q_is : q ≡ at node many
  pub node_is : slice_get flat.nodes node ≡ Some (Rep least most operand)
  pub enough : least ≤ few
  pub fewer : few ≤ many
  pub within : many ≤ top least most

abbrev pub IsAhead : Flat → Dot → Dot → Type 0
IsAhead flat p q = (p ≡ q) ⊎ IsFewer flat p q

-- dotted rule by dotted rule from the top on; one whose node is done there may stand between
abbrev pub Dominates : Flat → List Dot → List Dot → Type 0
Dominates flat [] other = other ≡ []
Dominates flat (p ∷ stack) other = (IsDoneAt flat p × Dominates flat stack other)
    ⊎ ((q : Dot) × (rest : List Dot) × (other ≡ q ∷ rest) × IsAhead flat p q × Dominates flat stack rest)

-- some stack that reads dominates it
pub record IsCovered (flat : Flat) (some : List Dot → Type 0) (stack : List Dot) : Type 0 where
  pub over : List Dot
  pub is : some over
  pub reads : IsReading flat over
  pub dominates : Dominates flat over stack

module _ (flat : Flat) (last : Dot → Bool) where
  -- tops over what is below, and if one of them has ended, what that leads to
  abbrev pub IsAmong : (List Dot → Type 0) → Bool → List Dot → List Dot → Type 0
  IsAmong tops ended below stack = Lifted tops below stack ⊎ ((ended ≡ true) × Led flat last (λ v. below ≡ v) stack)

  module _ (x : List ℕ) (j : ℕ) where
    -- the tops over what is below are reading stacks that j letters lead to, and dominate all others
    pub record IsPlainCover (tops : List Dot → Type 0) (below : List Dot) : Type 0 where
      pub reading : (stack : List Dot) → IsReading flat stack
          → (Reach flat last x j stack → IsCovered flat (Lifted tops below) stack)
          × (Lifted tops below stack → Reach flat last x j stack)
      pub all_read : (top : List Dot) → tops top → IsReading flat top

    -- .. and if one of them has ended, with those that what is below leads to
    pub record IsCover (tops : List Dot → Type 0) (ended : Bool) (below : List Dot) : Type 0 where
      pub reading : (stack : List Dot) → IsReading flat stack
          → (Reach flat last x j stack → IsCovered flat (IsAmong tops ended below) stack)
          × (IsAmong tops ended below stack → Reach flat last x j stack)
      pub all_read : (top : List Dot) → tops top → IsReading flat top
      pub accepts : Accepts flat last x j ↔ ((ended ≡ true) × Empties flat last below)

-- of ids some whose stacks dominate those of all
pub record IsPruned (tables : code_flat.Tables) (conts : List Cont) (all kept : List ℕ) : Type 0 where
  pub only : (id : ℕ) → Contains kept id → Contains all id
  pub rest : (id : ℕ) → Contains all id → (other : ℕ) × Contains kept other
      × Dominates (flat_of tables) (stack_of conts other) (stack_of conts id)

-- a top was added, or one of those before dominates it
abbrev pub IsTopTaken : code_flat.Tables → List Cont → List ℕ → List ℕ → ℕ → Type 0
IsTopTaken tables conts old new id = (new ≡ old ++ id ∷ []) ⊎ ((new ≡ old) × ((other : ℕ) × Contains old other
    × Dominates (flat_of tables) (stack_of conts other) (stack_of conts id)))

-- a transition whose dominated stacks are left out
pub record LeadsTo (tables : code_flat.Tables) (c : ℕ) (first : List Cont) (tops : List ℕ) (conts : List Cont)
    (next : List ℕ) (ended : Bool) : Type 0 where
  pub read : List ℕ
  pub is : IsTransition tables c first tops conts read ended
  pub pruned : IsPruned tables conts read next
