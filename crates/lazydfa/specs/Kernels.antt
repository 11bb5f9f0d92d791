-- What is left to do after a symbol, and where that leads.
use Rattle.std.specs.Prelude.{◌≡◌, ◌↔◌, ◌⊎◌, ℕ, ◌≤◌, Bool, true, false, List, [], ◌∷◌, length, slice_get, Some}
use Rattle.std.specs.Prelude.{Contains}
use Rattle.flatgrammar.specs.Flat.{Dot}
use Rattle.flatgrammar.specs.declared.tables.Tables as code_flat
use Rattle.lazydfa.specs.declared.conts.Cont.{Cont}
use Rattle.lazydfa.specs.declared.cache.State.{State}
use Rattle.lazydfa.specs.declared.cache.Cell.{Cell}
use Rattle.lazydfa.specs.declared.cache.Cell.TheVariants.{Unknown, Over, Dead, To, Push}
use Rattle.lazydfa.specs.declared.kernels.KernelLead.{KernelLead}
use Rattle.lazydfa.specs.Conts.{last_of, stack_of, IsStackOf, TopReads, GoesOn, EndsAlone}
use Rattle.lazydfa.specs.Domination.{IsPruned}
use Rattle.lazydfa.specs.StackSuffixes.{IsSplitOff}

-- of what ids go on to the stacks whose top reads, and whether one comes to an end
pub record AreClosedTops (tables : code_flat.Tables) (first : List Cont) (given : List ℕ) (conts : List Cont)
    (next : List ℕ) (ended : Bool) : Type 0 where
  pub within : (id : ℕ) → Contains next id → id ≤ length conts
  pub tops_are : (stack : List Dot) → IsStackOf conts next stack ↔ (TopReads tables stack
      × GoesOn tables (IsStackOf first given) stack)
  pub ended_is : (ended ≡ true) ↔ ((stack : List Dot) × GoesOn tables (IsStackOf first given) stack
      × EndsAlone tables stack)

-- .. without dominated stacks
pub record ClosesTo (tables : code_flat.Tables) (first : List Cont) (given : List ℕ) (conts : List Cont)
    (next : List ℕ) (ended : Bool) : Type 0 where
  pub read : List ℕ
  pub is : AreClosedTops tables first given conts read ended
  pub pruned : IsPruned tables conts read next

-- what is left to do of a stack: all of it, or what is below a dotted rule where nothing is left to do
abbrev pub IsLeftOver : code_flat.Tables → List Dot → List Dot → Type 0
IsLeftOver tables stack rest = (stack ≡ rest) ⊎ ((p : Dot) × (stack ≡ p ∷ rest) × (last_of tables p ≡ true)
    × (rest ≡ [] → ⊥))

-- .. of each of some ids, by ids
pub record IsKernel (tables : code_flat.Tables) (conts : List Cont) (ids kernel : List ℕ) : Type 0 where
  pub many : length kernel ≡ length ids
  pub left : (k id other : ℕ) → slice_get ids k ≡ Some id → slice_get kernel k ≡ Some other
      → (other ≤ length conts) × IsLeftOver tables (stack_of conts id) (stack_of conts other)

-- ids lead to a state
pub record IsLeadTo (tables : code_flat.Tables) (first : List Cont) (given : List ℕ) (conts : List Cont)
    (states : List State) (t : ℕ) : Type 0 where
  pub to : State
  pub to_is : slice_get states t ≡ Some to
  pub is : ClosesTo tables first given conts to.tops.items to.ended

-- .. and over a suffix that is pushed below it
pub record IsLeadOver (tables : code_flat.Tables) (first : List Cont) (given : List ℕ) (conts : List Cont)
    (states : List State) (t suffix : ℕ) : Type 0 where
  pub to : State
  pub to_is : slice_get states t ≡ Some to
  pub read : List ℕ
  pub is : ClosesTo tables first given conts read false
  pub split : IsSplitOff tables conts read to.tops.items suffix
  pub runs : to.ended ≡ false

abbrev pub IsLeadCell : code_flat.Tables → List Cont → List ℕ → List Cont → List State → Cell → Type 0
IsLeadCell tables first given conts states Unknown = Unit {0}
IsLeadCell tables first given conts states Over = Unit {0}
IsLeadCell tables first given conts states Dead = ⊥
IsLeadCell tables first given conts states (To t) = IsLeadTo tables first given conts states t
IsLeadCell tables first given conts states (Push t suffix) = IsLeadOver tables first given conts states t suffix

-- a kernel leads to a state, as a lead says
pub record IsLead (tables : code_flat.Tables) (conts : List Cont) (states : List State) (lead : KernelLead) : Type 0
  where
    pub within : (id : ℕ) → Contains lead.kernel.items id → id ≤ length conts
    pub is : IsLeadTo tables conts lead.kernel.items conts states lead.to

abbrev pub AreLeads : code_flat.Tables → List Cont → List State → List KernelLead → Type 0
AreLeads tables conts states leads = (k : ℕ) (lead : KernelLead) → slice_get leads k ≡ Some lead
    → IsLead tables conts states lead

-- a lead of a kernel is listed
pub record IsLeadKnown (leads : List KernelLead) (kernel : List ℕ) (t : ℕ) : Type 0 where
  pub position : ℕ
  pub lead : KernelLead
  pub is : slice_get leads position ≡ Some lead
  pub kernel_is : lead.kernel.items ≡ kernel
  pub to_is : lead.to ≡ t

-- at most the lead of a kernel was added
abbrev pub AreLeadsNoted : List KernelLead → List KernelLead → List ℕ → ℕ → Type 0
AreLeadsNoted old new kernel to = (k : ℕ) (lead : KernelLead) → slice_get new k ≡ Some lead
    → (slice_get old k ≡ Some lead) ⊎ ((lead.kernel.items ≡ kernel) × (lead.to ≡ to))

-- ids lead to a state with all of their stacks
pub record IsWholeLeadTo (tables : code_flat.Tables) (first : List Cont) (given : List ℕ) (conts : List Cont)
    (states : List State) (t : ℕ) : Type 0 where
  pub to : State
  pub to_is : slice_get states t ≡ Some to
  pub is : AreClosedTops tables first given conts to.tops.items to.ended

-- .. as a lead says
pub record IsWholeLead (tables : code_flat.Tables) (conts : List Cont) (states : List State) (lead : KernelLead)
    : Type 0 where
  pub within : (id : ℕ) → Contains lead.kernel.items id → id ≤ length conts
  pub is : IsWholeLeadTo tables conts lead.kernel.items conts states lead.to

abbrev pub AreWholeLeads : code_flat.Tables → List Cont → List State → List KernelLead → Type 0
AreWholeLeads tables conts states leads = (k : ℕ) (lead : KernelLead) → slice_get leads k ≡ Some lead
    → IsWholeLead tables conts states lead
