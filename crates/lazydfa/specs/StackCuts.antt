-- States that are cut: their stacks are tops, each on each of some suffixes.
use Rattle.std.specs.Prelude.{◌≡◌, ◌↔◌, ℕ, ◌≤◌, Bool, true, false, List, [], ◌++◌, length, slice_get, Some, Contains}
use Rattle.flatgrammar.specs.Flat.{Flat, Dot}
use Rattle.flatgrammar.specs.Stacks.{IsReading, Led, LedToEnd}
use Rattle.flatgrammar.specs.declared.tables.Tables as code_flat
use Rattle.lazydfa.specs.declared.conts.Cont.{Cont}
use Rattle.lazydfa.specs.declared.cache.State.{State}
use Rattle.lazydfa.specs.Conts.{stack_of, EndsAlone, GoesOn, IsStackOf, TopReads}
use Rattle.lazydfa.specs.StateSets.{grammar_of, last_in, StateSet, StateSets}

-- the stack is a top on a suffix
pub record IsTopOnSuffix (tops suffixes : List (List Dot)) (stack : List Dot) : Type 0 where
  pub top : List Dot
  pub suffix : List Dot
  pub is : stack ≡ top ++ suffix
  pub is_top : Contains tops top
  pub is_suffix : Contains suffixes suffix

-- each top on each suffix is one of the stacks
abbrev pub AreAllJoined : List (List Dot) → List (List Dot) → List (List Dot) → Type 0
AreAllJoined tops suffixes stacks = (top suffix : List Dot) → Contains tops top → Contains suffixes suffix
    → Contains stacks (top ++ suffix)

abbrev pub AreFull : List (List Dot) → Type 0
AreFull stacks = (stack : List Dot) → Contains stacks stack → stack ≡ [] → ⊥

-- the state of some stacks: what they lead to without a symbol
pub record IsStateFrom (flat : Flat) (last : Dot → Bool) (from : List Dot → Type 0) (tops : List (List Dot))
    (ended : Bool) : Type 0 where
  pub tops_are : (top : List Dot) → Contains tops top ↔ (IsReading flat top × Led flat last from top)
  pub ended_is : (ended ≡ true) ↔ LedToEnd flat last from

-- each stack of a state is one of another, and that one has ended if the state has
pub record IsStateWithin (got other : StateSet) : Type 0 where
  pub stacks_are : (stack : List Dot) → Contains got.stacks stack → Contains other.stacks stack
  pub ends : got.ended ≡ true → other.ended ≡ true

-- a state is cut into a state of tops and one of what their suffixes go on to
pub record IsCutState (sets : StateSets) (s tops below : ℕ) : Type 0 where
  pub whole_set : StateSet
  pub top_set : StateSet
  pub below_set : StateSet
  pub suffixes : List (List Dot)
  pub whole_is : slice_get sets.states s ≡ Some whole_set
  pub tops_are : slice_get sets.states tops ≡ Some top_set
  pub below_is : slice_get sets.states below ≡ Some below_set
  pub runs : whole_set.ended ≡ false
  pub tops_run : top_set.ended ≡ false
  pub reading : (top : List Dot) → Contains top_set.stacks top → IsReading (grammar_of sets) top
  pub full : AreFull suffixes
  pub split : (stack : List Dot) → Contains whole_set.stacks stack → IsTopOnSuffix top_set.stacks suffixes stack
  pub joined : AreAllJoined top_set.stacks suffixes whole_set.stacks
  pub goes_on : IsStateFrom (grammar_of sets) (last_in sets) (Contains suffixes) below_set.stacks below_set.ended

-- a stack of the tops on one of the suffixes, by their ids
pub record IsJoinedTop (conts : List Cont) (tops suffixes : List ℕ) (stack : List Dot) : Type 0 where
  pub top : ℕ
  pub suffix : ℕ
  pub is_top : Contains tops top
  pub is_suffix : Contains suffixes suffix
  pub is : stack ≡ stack_of conts top ++ stack_of conts suffix

-- these ids are the suffixes, and those are all tops on them
pub record AreJoinedTops (first : List Cont) (tops suffixes : List ℕ) (conts : List Cont) (ids joined : List ℕ) : Type 0
  where
    pub ids_are : (id : ℕ) → Contains ids id ↔ Contains suffixes id
    pub only : (id : ℕ) → Contains joined id → (id ≤ length conts) × IsJoinedTop first tops suffixes (stack_of conts id)
    pub all : (top suffix : ℕ) → Contains tops top → Contains suffixes suffix
        → IsStackOf conts joined (stack_of first top ++ stack_of first suffix)

-- a cut by ids: the stacks, the tops, the suffixes, and what the suffixes go on to without a symbol
pub record IsCutOff (tables : code_flat.Tables) (conts : List Cont) (suffixes joined tops below : List ℕ)
    (ended : Bool) : Type 0 where
  pub tops_within : (id : ℕ) → Contains tops id → id ≤ length conts
  pub suffixes_full : (id : ℕ) → Contains suffixes id → stack_of conts id ≡ [] → ⊥
  pub below_within : (id : ℕ) → Contains below id → id ≤ length conts
  pub all_read : (id : ℕ) → Contains tops id → TopReads tables (stack_of conts id)
  pub joined_are : (stack : List Dot) → IsStackOf conts joined stack ↔ IsJoinedTop conts tops suffixes stack
  pub below_are : (stack : List Dot) → IsStackOf conts below stack
      ↔ (TopReads tables stack × GoesOn tables (IsStackOf conts suffixes) stack)
  pub ended_is : (ended ≡ true) ↔ ((stack : List Dot) × GoesOn tables (IsStackOf conts suffixes) stack
      × EndsAlone tables stack)

-- .. of states by their numbers
pub record IsCutAt (tables : code_flat.Tables) (conts : List Cont) (states : List State) (s tops below : ℕ) : Type 0
  where
    pub whole_state : State
    pub top_state : State
    pub below_state : State
    pub suffixes : List ℕ
    pub whole_is : slice_get states s ≡ Some whole_state
    pub tops_are : slice_get states tops ≡ Some top_state
    pub below_is : slice_get states below ≡ Some below_state
    pub runs : whole_state.ended ≡ false
    pub tops_run : top_state.ended ≡ false
    pub cut : IsCutOff tables conts suffixes whole_state.tops.items top_state.tops.items below_state.tops.items
        below_state.ended
