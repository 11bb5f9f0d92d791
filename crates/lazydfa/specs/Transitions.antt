-- Known cells that lead to states, and how they are kept.
use Rattle.std.specs.Prelude.{◌≡◌, ◌⊎◌, ℕ, ◌+◌, ◌*◌, ◌/◌, ◌%◌, ◌^◌, ◌<◌, ◌≤◌, Bool, true, false, List, length}
use Rattle.std.specs.Prelude.{slice_get, Some}
use Rattle.flatgrammar.specs.Flat.{Flat}
use Rattle.flatgrammar.specs.declared.tables.Tables as code_flat
use Rattle.flatgrammar.specs.ClassBounds.{AreClasses, IsClassOf}
use Rattle.lazydfa.specs.declared.conts.Cont.{Cont}
use Rattle.lazydfa.specs.declared.cache.State.{State}
use Rattle.lazydfa.specs.Cached.{IsStep}

-- the word i leads to the state whose row is r; a row has a word for each class and a last one
pub record IsTransitionTo (tables : code_flat.Tables) (samples : List ℕ) (conts : List Cont) (states : List State)
    (i r : ℕ)
    : Type 0 where
  pub to : ℕ
  pub row : r ≡ to * (length samples + 1)
  pub leads : (d : ℕ) → slice_get samples (i % (length samples + 1)) ≡ Some d
      → IsStep tables d conts states (i / (length samples + 1)) to

-- the word i is in the row of a state that has ended, or has not
pub record IsEndAt (samples : List ℕ) (states : List State) (i : ℕ) (ended : Bool) : Type 0 where
  pub state : State
  pub is : slice_get states (i / (length samples + 1)) ≡ Some state
  pub ended_is : state.ended ≡ ended

-- what the word i says: for a class, below 2 ^ 31, to which row it leads; last in a row, whether that state has ended
pub record IsCachedTransition (tables : code_flat.Tables) (samples : List ℕ) (conts : List Cont) (states : List State)
    (i word : ℕ)
    : Type 0 where
  pub leads : i % (length samples + 1) < length samples → word < 2 ^ 31
      → IsTransitionTo tables samples conts states i word
  pub runs : i % (length samples + 1) ≡ length samples → word ≡ 0 → IsEndAt samples states i false
  pub ends : i % (length samples + 1) ≡ length samples → word ≡ 1 → IsEndAt samples states i true

abbrev pub AreTransitions : code_flat.Tables → List ℕ → List Cont → List State → List ℕ → Type 0
AreTransitions tables samples conts states transitions = (i word : ℕ) → slice_get transitions i ≡ Some word
    → IsCachedTransition tables samples conts states i word

-- the word i leads to the row r, and where suffixes are left its state has not ended
abbrev pub IsTaken : List ℕ → ℕ → Bool → ℕ → ℕ → Type 0
IsTaken transitions classes bare i r = (slice_get transitions i ≡ Some r) × (r < 2 ^ 31)
    × ((bare ≡ true) ⊎ (slice_get transitions (r + classes) ≡ Some 0))

-- a class leads from a row to that row
abbrev pub LeadsBack : List ℕ → ℕ → ℕ → Type 0
LeadsBack transitions row class = slice_get transitions (row + class) ≡ Some row

-- a symbol has such a class
abbrev pub StaysBy : List ℕ → List ℕ → List ℕ → ℕ → ℕ → Type 0
StaysBy low samples transitions row c = (flat : Flat) → AreClasses flat low samples → (class : ℕ)
    × IsClassOf flat samples c class × LeadsBack transitions row class

-- .. and so have all symbols from one position to another
abbrev pub StaysOver : List ℕ → List ℕ → List ℕ → List ℕ → ℕ → ℕ → ℕ → Type 0
StaysOver low samples transitions x row from to = (j c : ℕ) → from ≤ j → j < to → slice_get x j ≡ Some c
    → StaysBy low samples transitions row c

-- words were added that say nothing
abbrev pub AreTransitionsAdded : List ℕ → List ℕ → Type 0
AreTransitionsAdded old new = (i word : ℕ) → slice_get new i ≡ Some word → (slice_get old i ≡ Some word)
    ⊎ (2 ^ 31 ≤ word)

-- .. and at most that one was written
abbrev pub IsTransitionPut : List ℕ → List ℕ → ℕ → ℕ → Type 0
IsTransitionPut old new at word = (i other : ℕ) → slice_get new i ≡ Some other
    → ((slice_get old i ≡ Some other) ⊎ (2 ^ 31 ≤ other)) ⊎ ((i ≡ at) × (word ≡ other))

-- a word that leads from a state to another, where there are so many classes
pub record IsTransitionMade (classes s k t i word : ℕ) : Type 0 where
  pub within : k < classes
  pub position : i ≡ s * (classes + 1) + k
  pub is : word ≡ t * (classes + 1)

-- the last word of a state's row
abbrev pub last_word : Bool → ℕ
last_word true = 1
last_word false = 0

-- .. and where it was written
pub record IsEndMade (states : List State) (classes t i word : ℕ) : Type 0 where
  pub position : i ≡ t * (classes + 1) + classes
  pub state : State
  pub there : slice_get states t ≡ Some state
  pub is : word ≡ last_word state.ended

abbrev pub AreTransitionsNoted : List State → ℕ → ℕ → ℕ → ℕ → List ℕ → List ℕ → Type 0
AreTransitionsNoted states classes s k t old new = (i word : ℕ) → slice_get new i ≡ Some word
    → ((slice_get old i ≡ Some word) ⊎ (2 ^ 31 ≤ word)) ⊎ (IsTransitionMade classes s k t i word
    ⊎ IsEndMade states classes t i word)
