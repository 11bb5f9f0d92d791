-- States and cells that are kept.
use Rattle.std.specs.Prelude.{◌≡◌, ◌↔◌, ◌⊎◌, ℕ, ◌+◌, ◌≤◌, ◌/◌, ◌%◌, Bool, true, false, List, [], ◌++◌, length}
use Rattle.std.specs.Prelude.{slice_get, Some, Contains}
use Rattle.flatgrammar.specs.Flat.{Dot}
use Rattle.flatgrammar.specs.ItemClosures.{begin_count}
use Rattle.flatgrammar.specs.TableViews.{start_target}
use Rattle.flatgrammar.specs.declared.tables.Tables as code_flat
use Rattle.lazydfa.specs.declared.conts.Cont.{Cont}
use Rattle.lazydfa.specs.declared.cache.State.{State}
use Rattle.lazydfa.specs.declared.cache.Cell.{Cell}
use Rattle.lazydfa.specs.declared.cache.Cell.TheVariants.{Unknown, Over, Dead, To, Push}
use Rattle.lazydfa.specs.declared.cache.Cache.{Cache}
use Rattle.flatgrammar.specs.NodeSteps.{flat_of}
use Rattle.lazydfa.specs.Conts.{last_of, AreOlder, AreKept, Begun, IsStackOf, TopReads, GoesOn, EndsAlone, ReadsFrom}
use Rattle.lazydfa.specs.Domination.{IsCover, LeadsTo}
use Rattle.lazydfa.specs.StackSuffixes.{IsSplitOff}

-- the augmented start begins
pub record IsBegun (tables : code_flat.Tables) (stack : List Dot) : Type 0 where
  pub target : ℕ
  pub is : start_target tables ≡ Some target
  pub begun : Begun target (begin_count tables target) [] stack

-- what the augmented start's starts lead to without a symbol
pub record IsStart (tables : code_flat.Tables) (conts : List Cont) (tops : List ℕ) (ended : Bool) : Type 0 where
  pub within : (id : ℕ) → Contains tops id → id ≤ length conts
  pub tops_are : (stack : List Dot) → IsStackOf conts tops stack
      ↔ (TopReads tables stack × GoesOn tables (IsBegun tables) stack)
  pub ended_is : (ended ≡ true) ↔ ((stack : List Dot) × GoesOn tables (IsBegun tables) stack × EndsAlone tables stack)

-- states were added
pub record AreGrown (old new : List State) : Type 0 where
  pub added : List State
  pub grown : new ≡ old ++ added

-- the number of a state
pub record IsStateOf (states : List State) (tops : List ℕ) (ended : Bool) (t : ℕ) : Type 0 where
  pub state : State
  pub is : slice_get states t ≡ Some state
  pub tops_are : state.tops.items ≡ tops
  pub ended_is : state.ended ≡ ended

-- at most that state was added
pub record IsInterned (old new : List State) (tops : List ℕ) (ended : Bool) (t : ℕ) : Type 0 where
  pub grown : AreGrown old new
  pub only : (s : ℕ) (state : State) → slice_get new s ≡ Some state → (slice_get old s ≡ Some state)
      ⊎ ((length old ≤ s) × (state.tops.items ≡ tops) × (state.ended ≡ ended))
  pub is : IsStateOf new tops ended t

-- from one state to another, by a symbol that one of its tops reads
pub record IsStep (tables : code_flat.Tables) (d : ℕ) (conts : List Cont) (states : List State) (s t : ℕ) : Type 0 where
  pub from : State
  pub to : State
  pub from_is : slice_get states s ≡ Some from
  pub to_is : slice_get states t ≡ Some to
  pub is : LeadsTo tables d conts from.tops.items conts to.tops.items to.ended
  pub some : (stack : List Dot) × ReadsFrom tables d conts from.tops.items stack

-- .. and over a suffix that is pushed below it
pub record IsPush (tables : code_flat.Tables) (d : ℕ) (conts : List Cont) (states : List State) (s t suffix : ℕ)
    : Type 0 where
  pub from : State
  pub to : State
  pub read : List ℕ
  pub from_is : slice_get states s ≡ Some from
  pub to_is : slice_get states t ≡ Some to
  pub is : LeadsTo tables d conts from.tops.items conts read false
  pub some : (stack : List Dot) × ReadsFrom tables d conts from.tops.items stack
  pub split : IsSplitOff tables conts read to.tops.items suffix
  pub runs : to.ended ≡ false

-- no top reads the symbol
pub record IsDead (tables : code_flat.Tables) (d : ℕ) (conts : List Cont) (states : List State) (s : ℕ) : Type 0 where
  pub from : State
  pub from_is : slice_get states s ≡ Some from
  pub none : (stack : List Dot) → ReadsFrom tables d conts from.tops.items stack → ⊥

abbrev pub IsCell : code_flat.Tables → ℕ → List Cont → List State → ℕ → Cell → Type 0
IsCell tables d conts states s Unknown = Unit {0}
IsCell tables d conts states s Over = Unit {0}
IsCell tables d conts states s Dead = IsDead tables d conts states s
IsCell tables d conts states s (To t) = IsStep tables d conts states s t
IsCell tables d conts states s (Push t suffix) = IsPush tables d conts states s t suffix

-- the cell i is that of the state i / (n + 1) and the class i % (n + 1), where n classes have samples
pub record AreCached (tables : code_flat.Tables) (samples : List ℕ) (conts : List Cont) (states : List State)
    (cells : List Cell) : Type 0 where
  pub older : AreOlder conts
  pub within : (s : ℕ) (state : State) → slice_get states s ≡ Some state → (id : ℕ) → Contains state.tops.items id
      → id ≤ length conts
  pub start : (state : State) → slice_get states 0 ≡ Some state → IsStart tables conts state.tops.items state.ended
  pub filled : (i d : ℕ) (cell : Cell) → slice_get cells i ≡ Some cell
      → slice_get samples (i % (length samples + 1)) ≡ Some d
      → IsCell tables d conts states (i / (length samples + 1)) cell

abbrev pub IsCache : code_flat.Tables → List ℕ → Cache → Type 0
IsCache tables samples cache =
    AreCached tables samples cache.conts.items.items cache.states.items cache.cells.items

-- cells were added that are not known
abbrev pub AreAddedUnknown : List Cell → List Cell → Type 0
AreAddedUnknown old new = (i : ℕ) (cell : Cell) → slice_get new i ≡ Some cell
    → (slice_get old i ≡ Some cell) ⊎ (cell ≡ Unknown)

-- of the two caches the second has what the first has
pub record Grows (old new : Cache) : Type 0 where
  pub conts : AreKept old.conts.items.items new.conts.items.items
  pub states : AreGrown old.states.items new.states.items

-- the number of a state that is the start
pub record IsStartAt (tables : code_flat.Tables) (conts : List Cont) (states : List State) (t : ℕ) : Type 0 where
  pub state : State
  pub is : slice_get states t ≡ Some state
  pub start : IsStart tables conts state.tops.items state.ended

-- the number of a state whose stacks, over what is below, cover those that the first j symbols lead to
pub record IsAt (tables : code_flat.Tables) (conts : List Cont) (states : List State) (s : ℕ) (x : List ℕ) (j : ℕ)
    (below : List Dot) : Type 0 where
  pub state : State
  pub is : slice_get states s ≡ Some state
  pub cover : IsCover (flat_of tables) (last_of tables) x j (IsStackOf conts state.tops.items) state.ended below
