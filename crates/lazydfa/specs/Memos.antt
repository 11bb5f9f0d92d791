-- What is kept from line to line beside the cache, and where a run over a line stands.
use Rattle.std.specs.Prelude.{◌≡◌, ◌⊎◌, ℕ, ◌+◌, ◌*◌, ◌<◌, ◌≤◌, Bool, true, false, List, [], length, slice_get, Some}
use Rattle.flatgrammar.specs.NodeSteps.{flat_of}
use Rattle.flatgrammar.specs.TableViews.{GiveTargets}
use Rattle.flatgrammar.specs.declared.tables.Tables as code_flat
use Rattle.lazydfa.specs.declared.conts.Cont.{Cont}
use Rattle.lazydfa.specs.declared.cache.State.{State}
use Rattle.lazydfa.specs.declared.memo.Memo.{Memo}
use Rattle.lazydfa.specs.declared.memo.ResumedState.{ResumedState}
use Rattle.lazydfa.specs.declared.glide.Track.{Track}
use Rattle.lazydfa.specs.declared.run.RunStep.{RunStep}
use Rattle.lazydfa.specs.declared.run.RunStep.TheVariants.{To, Dead, Over}
use Rattle.lazydfa.specs.Conts.{last_of}
use Rattle.lazydfa.specs.Cached.{IsCache, IsAt}
use Rattle.flatgrammar.specs.ClassBounds.{AreClasses}
use Rattle.lazydfa.specs.Kernels.{AreLeads}
use Rattle.lazydfa.specs.Transitions.{AreTransitions}
use Rattle.lazydfa.specs.StackSuffixes.{IsSplitOff, PutsBack, AreSuffixes, below_of}
use Rattle.lazydfa.specs.RunVerdicts.{IsReached}

-- stacks are those of a state, or those of a state over what is split off them
abbrev pub AreResumedStacks : code_flat.Tables → List Cont → List ℕ → Bool → State → ℕ → Type 0
AreResumedStacks tables conts whole ended to below = ((below ≡ 0) × (to.tops.items ≡ whole) × (to.ended ≡ ended))
    ⊎ ((ended ≡ false) × (to.ended ≡ false) × IsSplitOff tables conts whole to.tops.items below)

-- a state and a suffix below it are another state, over what is split off it
pub record IsResumedState (tables : code_flat.Tables) (conts : List Cont) (states : List State)
    (s suffix t below : ℕ) : Type 0 where
  pub from : State
  pub to : State
  pub whole : List ℕ
  pub ended : Bool
  pub from_is : slice_get states s ≡ Some from
  pub to_is : slice_get states t ≡ Some to
  pub suffix_within : suffix ≤ length conts
  pub is : PutsBack tables conts from.tops.items suffix conts whole ended
  pub left : AreResumedStacks tables conts whole ended to below

-- .. as a resumed state says
abbrev pub IsResumedBy : code_flat.Tables → List Cont → List State → ℕ → ℕ → ResumedState → Type 0
IsResumedBy tables conts states s suffix known = (known.state ≡ s) × (known.suffix ≡ suffix)
    × IsResumedState tables conts states s suffix known.to known.below

-- a resumed state of a state and a suffix is listed
pub record IsKnown (resumes : List ResumedState) (s suffix : ℕ) (listed : ResumedState) : Type 0 where
  pub position : ℕ
  pub is : slice_get resumes position ≡ Some listed
  pub state_is : listed.state ≡ s
  pub suffix_is : listed.suffix ≡ suffix

abbrev pub AreResumes : code_flat.Tables → List Cont → List State → List ResumedState → Type 0
AreResumes tables conts states resumes = (k : ℕ) (u : ResumedState) → slice_get resumes k ≡ Some u
    → IsResumedState tables conts states u.state u.suffix u.to u.below

pub record IsMemo (tables : code_flat.Tables) (samples : List ℕ) (memo : Memo) : Type 0 where
  pub cached : IsCache tables samples memo.cache
  pub resumes : AreResumes tables memo.cache.conts.items.items memo.cache.states.items memo.resumes.items
  pub transitions : AreTransitions tables samples memo.cache.conts.items.items memo.cache.states.items
      memo.transitions.items
  pub leads : AreLeads tables memo.cache.conts.items.items memo.cache.states.items memo.leads.items.items

-- a state is the closure after the first j symbols, over the suffixes
pub record IsOver (tables : code_flat.Tables) (conts : List Cont) (states : List State) (suffixes : List ℕ) (s : ℕ)
    (x : List ℕ) (j : ℕ) : Type 0 where
  pub suffixes_are : AreSuffixes conts suffixes
  pub at : IsAt tables conts states s x j (below_of conts suffixes)

-- .. and it has not ended, or stands on no suffix
pub record IsSettled (tables : code_flat.Tables) (conts : List Cont) (states : List State) (suffixes : List ℕ) (s : ℕ)
    (x : List ℕ) (j : ℕ) : Type 0 where
  pub over : IsOver tables conts states suffixes s x j
  pub plain : over.at.state.ended ≡ true → suffixes ≡ []

abbrev pub RunsOver : code_flat.Tables → Memo → ℕ → List ℕ → ℕ → Type 0
RunsOver tables memo = IsOver tables memo.cache.conts.items.items memo.cache.states.items memo.suffixes.items

abbrev pub RunsAt : code_flat.Tables → Memo → ℕ → List ℕ → ℕ → Type 0
RunsAt tables memo = IsSettled tables memo.cache.conts.items.items memo.cache.states.items memo.suffixes.items

-- a run goes on from there, and some symbols led to something; its state is given by its row
pub record IsTrack (tables : code_flat.Tables) (samples : List ℕ) (memo : Memo) (x : List ℕ) (track : Track) : Type 0
  where
    pub state : ℕ
    pub row : track.row ≡ state * (length samples + 1)
    pub runs : RunsAt tables memo state x track.at
    pub reached : 0 < track.at → IsReached (flat_of tables) (last_of tables) x track.at

-- .. from a row, after the first j symbols
abbrev pub TracksAt : code_flat.Tables → List ℕ → Memo → List ℕ → ℕ → ℕ → Type 0
TracksAt tables samples memo x row j = IsTrack tables samples memo x (record { row = row; at = j })

-- where a run goes on, it goes on to there, by any grammar that the memo is of
abbrev pub GlidesOver : List ℕ → List ℕ → Memo → List ℕ → Track → Track → Type 0
GlidesOver low samples memo x from to = (tables : code_flat.Tables) → GiveTargets (flat_of tables) tables.targets.items
    → AreClasses (flat_of tables) low samples → IsMemo tables samples memo → IsTrack tables samples memo x from
    → IsTrack tables samples memo x to

-- whether the state of a row has ended
abbrev pub IsEndOf : List ℕ → Memo → ℕ → Bool → Type 0
IsEndOf samples memo row ended = (tables : code_flat.Tables) → IsMemo tables samples memo → (s : ℕ)
    → row ≡ s * (length samples + 1) → (got : State) → slice_get memo.cache.states.items s ≡ Some got
    → ended ≡ got.ended

-- what the symbol after the first j leads to from a row
abbrev pub IsStepTaken : code_flat.Tables → List ℕ → Memo → List ℕ → ℕ → ℕ → RunStep → Type 0
IsStepTaken tables samples memo x row j (To r) = TracksAt tables samples memo x r (j + 1)
IsStepTaken tables samples memo x row j Dead = TracksAt tables samples memo x row j
    × ((m : ℕ) → j < m → IsReached (flat_of tables) (last_of tables) x m → ⊥)
IsStepTaken tables samples memo x row j Over = Unit {0}

-- a step to the row of a state, where rows have so many words
abbrev pub IsStepTo : ℕ → ℕ → RunStep → Type 0
IsStepTo s stride (To r) = r ≡ s * stride
IsStepTo s stride Dead = ⊥
IsStepTo s stride Over = Unit {0}

-- where a run stops: at the end of the line, or where one more symbol leads to nothing
pub record IsRunStop (tables : code_flat.Tables) (samples : List ℕ) (memo : Memo) (x : List ℕ) (stop : Track) : Type 0
  where
    pub within : stop.at ≤ length x
    pub tracks : IsTrack tables samples memo x stop
    pub dead : stop.at < length x → (m : ℕ) → stop.at < m → IsReached (flat_of tables) (last_of tables) x m → ⊥
