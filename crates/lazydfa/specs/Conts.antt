-- Continuations by id: the dotted rule on top, and the id of what is below it.
use Rattle.std.specs.Prelude.{◌≡◌, ◌≢◌, ◌↔◌, ◌⊎◌, ℕ, ◌+◌, ◌<◌, ◌≤◌, Bool, true, false, eqb, if◌then◌else◌, List, []}
use Rattle.std.specs.Prelude.{◌∷◌, ◌++◌}
use Rattle.std.specs.Prelude.{length, reverse, slice_get, Option, Some, None, Contains}
use Rattle.flatgrammar.specs.Flat.{Dot, at, Set}
use Rattle.flatgrammar.specs.ItemClosures.{begin_count, item_at, dot}
use Rattle.flatgrammar.specs.NodeSteps.{IfSomeSet}
use Rattle.flatgrammar.specs.Positions.{In}
use Rattle.flatgrammar.specs.TableViews.{call_of, done_of, read_of}
use Rattle.flatgrammar.specs.declared.closure.DottedRule.{DottedRule}
use Rattle.flatgrammar.specs.declared.tables.Tables as code_flat
use Rattle.lazydfa.specs.declared.conts.Cont.{Cont}

-- the stack of an id, of continuations from the last on: 0 is that of nothing
abbrev pub stack_back : List Cont → ℕ → List Dot
stack_back [] id = []
stack_back (c ∷ older) id =
    if eqb id (length older + 1) then at c.node c.step ∷ stack_back older c.next else stack_back older id

abbrev pub stack_of : List Cont → ℕ → List Dot
stack_of conts id = stack_back (reverse conts) id

-- what is below is older
abbrev pub AreOlder : List Cont → Type 0
AreOlder conts = (k : ℕ) (c : Cont) → slice_get conts k ≡ Some c → c.next ≤ k

-- continuations were added, and the stacks of those before are as they were
pub record AreKept (old new : List Cont) : Type 0 where
  pub added : List Cont
  pub grown : new ≡ old ++ added
  pub older : AreOlder old → AreOlder new

-- an id of a stack
pub record IsIdOf (conts : List Cont) (id : ℕ) (stack : List Dot) : Type 0 where
  pub within : id ≤ length conts
  pub is : stack_of conts id ≡ stack

-- ids were added, of these stacks alone
pub record Adds (conts : List Cont) (P : List Dot → Type 0) (old new : List ℕ) : Type 0 where
  pub added : List ℕ
  pub grown : new ≡ old ++ added
  pub sound : (id : ℕ) → Contains added id → (id ≤ length conts) × P (stack_of conts id)
  pub whole : (stack : List Dot) → P stack → (id : ℕ) × Contains new id × IsIdOf conts id stack

-- an id was added, if it was not there
pub record IsAdded (old new : List ℕ) (id : ℕ) : Type 0 where
  pub added : List ℕ
  pub grown : new ≡ old ++ added
  pub only : (other : ℕ) → Contains added other → other ≡ id
  pub has : Contains new id

-- the node at one of its first steps, over what is below
pub record Begun (node count : ℕ) (below stack : List Dot) : Type 0 where
  pub step : ℕ
  pub begins : step < count
  pub is : stack ≡ at node step ∷ below

-- it calls nothing, is done and reads nothing
abbrev pub last_by : Option (ℕ × ℕ) → Bool → Option Set → Bool
last_by None true None = true
last_by None true (Some set) = false
last_by None false set = false
last_by (Some called) done set = false

abbrev pub last_of : code_flat.Tables → Dot → Bool
last_of tables (at n k) =
    last_by (call_of tables (item_at 0 (dot n k))) (done_of tables (item_at 0 (dot n k)))
    (read_of tables (item_at 0 (dot n k)))

-- what is left to do in a node, before what is below
abbrev pub after : code_flat.Tables → ℕ → ℕ → List Dot → List Dot
after tables n next below = if last_of tables (at n next) then below else at n next ∷ below

-- what a dotted rule calls begins
pub record CallMoves (tables : code_flat.Tables) (n k : ℕ) (below stack : List Dot) : Type 0 where
  pub target : ℕ
  pub next : ℕ
  pub called : call_of tables (item_at 0 (dot n k)) ≡ Some (target, next)
  pub begun : Begun target (begin_count tables target) (after tables n next below) stack

-- what a stack goes on to without a symbol
abbrev pub Goes : code_flat.Tables → List Dot → List Dot → Type 0
Goes tables [] stack = ⊥
Goes tables (at n k ∷ below) stack = CallMoves tables n k below stack
    ⊎ ((done_of tables (item_at 0 (dot n k)) ≡ true) × (stack ≡ below) × (below ≡ [] → ⊥))

-- one dotted rule alone, where its node is done
abbrev pub EndsAlone : code_flat.Tables → List Dot → Type 0
EndsAlone tables [] = ⊥
EndsAlone tables (at n k ∷ below) = (done_of tables (item_at 0 (dot n k)) ≡ true) × (below ≡ [])

-- what is led to from stacks step by step
pub data LedBy (goes : List Dot → List Dot → Type 0) (from : List Dot → Type 0) : List Dot → Type 0 where
  here : {stack : List Dot} → from stack → LedBy goes from stack
  on : {stack next : List Dot} → LedBy goes from stack → goes stack next → LedBy goes from next

-- .. without a symbol
abbrev pub GoesOn : code_flat.Tables → (List Dot → Type 0) → List Dot → Type 0
GoesOn tables from stack = LedBy (Goes tables) from stack

-- the stacks of ids
pub record IsStackOf (conts : List Cont) (ids : List ℕ) (stack : List Dot) : Type 0 where
  pub id : ℕ
  pub stands : Contains ids id
  pub is : stack ≡ stack_of conts id

-- the first so many ids are led on to ids
pub record IsClosing (tables : code_flat.Tables) (goes : List Dot → List Dot → Type 0) (first : List Cont)
    (given : List ℕ) (conts : List Cont) (ids : List ℕ) (count : ℕ) (ended : Bool) : Type 0 where
  pub kept : AreKept first conts
  pub within : (id : ℕ) → Contains ids id → id ≤ length conts
  pub sound : (id : ℕ) → Contains ids id → LedBy goes (IsStackOf first given) (stack_of conts id)
  pub given_stand : (id : ℕ) → Contains given id → Contains ids id
  pub closed : (k id : ℕ) → k < count → slice_get ids k ≡ Some id → (stack : List Dot)
      → goes (stack_of conts id) stack → IsStackOf conts ids stack
  pub ended_is : (ended ≡ true) ↔ ((k : ℕ) × (id : ℕ) × (k < count) × (slice_get ids k ≡ Some id)
      × EndsAlone tables (stack_of conts id))

-- all that ids are led on to, and whether a dotted rule alone is done
pub record IsClosedBy (tables : code_flat.Tables) (goes : List Dot → List Dot → Type 0) (first : List Cont)
    (given : List ℕ) (conts : List Cont) (ids : List ℕ) (ended : Bool) : Type 0 where
  pub within : (id : ℕ) → Contains ids id → id ≤ length conts
  pub stacks : (stack : List Dot) → IsStackOf conts ids stack ↔ LedBy goes (IsStackOf first given) stack
  pub ended_is : (ended ≡ true) ↔ ((stack : List Dot) × IsStackOf conts ids stack × EndsAlone tables stack)

-- .. without a symbol
abbrev pub IsClosure : code_flat.Tables → List Cont → List ℕ → List Cont → List ℕ → Bool → Type 0
IsClosure tables first given conts ids ended = IsClosedBy tables (Goes tables) first given conts ids ended

-- what a stack comes to by a symbol
abbrev pub ReadsOn : code_flat.Tables → ℕ → List Dot → List Dot → Type 0
ReadsOn tables c [] next = ⊥
ReadsOn tables c (at n k ∷ below) next = IfSomeSet (read_of tables (item_at 0 (dot n k))) c
    × (next ≡ at n (k + 1) ∷ below)

-- a symbol leads on from one of the ids
pub record ReadsFrom (tables : code_flat.Tables) (c : ℕ) (conts : List Cont) (ids : List ℕ) (next : List Dot)
    : Type 0 where
  pub id : ℕ
  pub stands : Contains ids id
  pub reads : ReadsOn tables c (stack_of conts id) next

-- something is read on top
abbrev pub TopReads : code_flat.Tables → List Dot → Type 0
TopReads tables [] = ⊥
TopReads tables (at n k ∷ below) = read_of tables (item_at 0 (dot n k)) ≢ None

-- of ids those on whose top something is read
pub record AreReaders (tables : code_flat.Tables) (conts : List Cont) (ids readers : List ℕ) : Type 0 where
  pub only : (id : ℕ) → Contains readers id → Contains ids id × TopReads tables (stack_of conts id)
  pub all : (id : ℕ) → Contains ids id → TopReads tables (stack_of conts id) → Contains readers id

-- a transition: by that symbol, and what it leads to without another
pub record IsTransition (tables : code_flat.Tables) (c : ℕ) (first : List Cont) (tops : List ℕ) (conts : List Cont)
    (next : List ℕ) (ended : Bool) : Type 0 where
  pub within : (id : ℕ) → Contains next id → id ≤ length conts
  pub tops_are : (stack : List Dot) → IsStackOf conts next stack ↔ (TopReads tables stack
      × GoesOn tables (ReadsFrom tables c first tops) stack)
  pub ended_is : (ended ≡ true) ↔ ((stack : List Dot) × GoesOn tables (ReadsFrom tables c first tops) stack
      × EndsAlone tables stack)

-- the dotted rules on top of the stacks of ids
pub record AreTopsOf (conts : List Cont) (ids : List ℕ) (dots : List DottedRule) : Type 0 where
  pub sound : (s : DottedRule) → In s dots → (id : ℕ) × Contains ids id × (below : List Dot)
      × (stack_of conts id ≡ at s.node s.step ∷ below)
  pub whole : (s : DottedRule) (id : ℕ) (below : List Dot) → Contains ids id
      → stack_of conts id ≡ at s.node s.step ∷ below → In s dots
