-- Parts of stacks: what all tops stand on is split off, and put back where one of them has ended.
use Rattle.std.specs.Prelude.{◌≡◌, ◌↔◌, ◌⊎◌, ℕ, ◌≤◌, Bool, true, List, [], ◌∷◌, ◌++◌, length, Contains}
use Rattle.flatgrammar.specs.Flat.{Dot}
use Rattle.flatgrammar.specs.declared.tables.Tables as code_flat
use Rattle.flatgrammar.specs.Stacks.{Lifted}
use Rattle.lazydfa.specs.declared.conts.Cont.{Cont}
use Rattle.lazydfa.specs.Conts.{stack_of, IsStackOf, TopReads, GoesOn, EndsAlone}

-- tops are others that stand on a suffix
pub record IsSplitOff (tables : code_flat.Tables) (conts : List Cont) (tops base : List ℕ) (suffix : ℕ) : Type 0 where
  pub within : suffix ≤ length conts
  pub base_within : (id : ℕ) → Contains base id → id ≤ length conts
  pub full : stack_of conts suffix ≡ [] → ⊥
  pub tops_are : (stack : List Dot) → IsStackOf conts tops stack ↔ Lifted (IsStackOf conts base) (stack_of conts suffix)
      stack
  pub all_read : (id : ℕ) → Contains base id → TopReads tables (stack_of conts id)

-- tops put on a suffix, and what the suffix goes on to without a symbol
pub record PutsBack (tables : code_flat.Tables) (first : List Cont) (tops : List ℕ) (suffix : ℕ) (conts : List Cont)
    (next : List ℕ) (ended : Bool) : Type 0 where
  pub within : (id : ℕ) → Contains next id → id ≤ length conts
  pub tops_are : (stack : List Dot) → IsStackOf conts next stack
      ↔ (Lifted (IsStackOf first tops) (stack_of first suffix) stack
      ⊎ (TopReads tables stack × GoesOn tables (λ v. stack_of first suffix ≡ v) stack))
  pub ended_is : (ended ≡ true) ↔ ((stack : List Dot) × GoesOn tables (λ v. stack_of first suffix ≡ v) stack
      × EndsAlone tables stack)

-- what suffixes are put on one another, the last on top
abbrev pub below_onto : List Cont → List ℕ → List Dot → List Dot
below_onto conts [] under = under
below_onto conts (suffix ∷ newer) under = below_onto conts newer (stack_of conts suffix ++ under)

abbrev pub below_of : List Cont → List ℕ → List Dot
below_of conts suffixes = below_onto conts suffixes []

-- each of them is there, and is not empty
abbrev pub AreSuffixes : List Cont → List ℕ → Type 0
AreSuffixes conts suffixes = (suffix : ℕ) → Contains suffixes suffix → (suffix ≤ length conts)
    × (stack_of conts suffix ≡ [] → ⊥)
