-- States by number, each a list of stacks.
use Rattle.std.specs.Prelude.{◌≡◌, ℕ, Bool, List, [], ◌++◌, map, slice_get, Some, Contains}
use Rattle.flatgrammar.specs.Flat.{Flat, Dot}
use Rattle.flatgrammar.specs.NodeSteps.{flat_of}
use Rattle.flatgrammar.specs.declared.tables.Tables as code_flat
use Rattle.flatgrammar.specs.Stacks.{AreUncounted, IsStackClosure, IsNext, MarksLast}
use Rattle.lazydfa.specs.declared.conts.Cont.{Cont}
use Rattle.lazydfa.specs.declared.cache.State.{State}
use Rattle.lazydfa.specs.Conts.{last_of, stack_of, IsTransition}
use Rattle.lazydfa.specs.RunVerdicts.{IsOne}

-- the stacks whose top reads a symbol, and whether the augmented start is done
pub record StateSet : Type 0 where
  pub stacks : List (List Dot)
  pub ended : Bool

-- the states of a grammar that were reached; the tables say at which dotted rules nothing is left to do
pub record StateSets : Type 0 where
  pub tables : code_flat.Tables
  pub states : List StateSet

abbrev pub grammar_of : StateSets → Flat
grammar_of sets = flat_of sets.tables

abbrev pub last_in : StateSets → Dot → Bool
last_in sets = last_of sets.tables

-- no state of that grammar was reached, and its stacks accept exactly the lines that it derives
pub record AreStatesOf (flat : Flat) (sets : StateSets) : Type 0 where
  pub is : grammar_of sets ≡ flat
  pub none : sets.states ≡ []
  pub one : IsOne flat
  pub uncounted : AreUncounted flat
  pub tail_positions : MarksLast flat (last_in sets)

-- states were added
pub record AreMoreStates (old new : StateSets) : Type 0 where
  pub same : new.tables ≡ old.tables
  pub added : List StateSet
  pub grown : new.states ≡ old.states ++ added

-- the number of the state before the first symbol
pub record IsStartState (sets : StateSets) (t : ℕ) : Type 0 where
  pub state : StateSet
  pub is : slice_get sets.states t ≡ Some state
  pub closure : (x : List ℕ)
      → IsStackClosure (grammar_of sets) (last_in sets) x 0 (Contains state.stacks) state.ended []

-- a symbol leads from one state to another
pub record IsNextState (sets : StateSets) (c s t : ℕ) : Type 0 where
  pub from : StateSet
  pub to : StateSet
  pub from_is : slice_get sets.states s ≡ Some from
  pub to_is : slice_get sets.states t ≡ Some to
  pub next : IsNext (grammar_of sets) (last_in sets) (Contains from.stacks) c (Contains to.stacks) to.ended

-- a state by its ids
abbrev pub state_set_of : List Cont → State → StateSet
state_set_of conts state = record { stacks = map (stack_of conts) state.tops.items; ended = state.ended }

abbrev pub sets_of : List Cont → List State → List StateSet
sets_of conts states = map (state_set_of conts) states

-- a symbol leads from the ids of one state to those of another
pub record IsLed (tables : code_flat.Tables) (c : ℕ) (conts : List Cont) (states : List State) (s t : ℕ) : Type 0 where
  pub from : State
  pub to : State
  pub from_is : slice_get states s ≡ Some from
  pub to_is : slice_get states t ≡ Some to
  pub is : IsTransition tables c conts from.tops.items conts to.tops.items to.ended
