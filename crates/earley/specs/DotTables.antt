-- Tables of the dotted rules of a flat grammar by number.
use Rattle.std.specs.Prelude.{◌≡◌, ℕ, ◌+◌, ◌<◌, Bool, true, false, List, [], length, Option, Some, None, slice_get}
use Rattle.flatgrammar.specs.ItemClosures.{item_at, dot, call_at, begin_count}
use Rattle.flatgrammar.specs.NodeSteps.{IfSomeSet}
use Rattle.flatgrammar.specs.Positions.{In, AreDifferent}
use Rattle.flatgrammar.specs.TableViews.{done_of, null_of, takes_of, read_of, start_target}
use Rattle.flatgrammar.specs.declared.closure.DottedRule.{DottedRule}
use Rattle.flatgrammar.specs.declared.tables.Tables as code_flat
use Rattle.earley.specs.declared.dot_table.Call.{Call}
use Rattle.earley.specs.declared.dot_table.Called.{Called}
use Rattle.earley.specs.declared.dot_table.DotTable.{DotTable}
use Rattle.earley.specs.declared.dot_table.TargetPositions.{TargetPositions}
use Rattle.earley.specs.declared.dot_table.DottedActions.{DottedActions}

-- different dotted rules, of nodes below one
pub record AreBelow (node : ℕ) (dots : List DottedRule) : Type 0 where
  pub below : (p : DottedRule) → In p dots → p.node < node
  pub different : AreDifferent dots

-- what a dotted rule calls, and the number of the dotted rule after the call
pub record IsCallAt (flat : code_flat.Tables) (dots : List DottedRule) (at : DottedRule) (c : Called) : Type 0 where
  pub next : ℕ
  pub call : call_at flat at ≡ Some (c.target, next)
  pub after : slice_get dots c.after ≡ Some (dot at.node next)
  pub free : null_of flat c.target ≡ true → takes_of flat (item_at 0 at) ≡ false → c.free ≡ true
  pub only_free : c.free ≡ true → (null_of flat c.target ≡ true) × (takes_of flat (item_at 0 at) ≡ false)
  pub within : c.target < length flat.nodes.items

abbrev pub IsCalledAt : code_flat.Tables → List DottedRule → DottedRule → Option Called → Type 0
IsCalledAt flat dots at None = call_at flat at ≡ None
IsCalledAt flat dots at (Some c) = IsCallAt flat dots at c

-- the number of the dotted rule after the symbol that a dotted rule may read
abbrev pub IsReadAt : List DottedRule → DottedRule → Bool → Option ℕ → Type 0
IsReadAt dots at may None = may ≡ false
IsReadAt dots at may (Some p) = slice_get dots p ≡ Some (dot at.node (at.step + 1))

-- what a dotted rule does
pub record IsStep (flat : code_flat.Tables) (dots : List DottedRule) (at : DottedRule)
    (s : DottedActions) : Type 0 where
  pub called : IsCalledAt flat dots at s.called
  pub done : s.done ≡ done_of flat (item_at 0 at)
  pub read : (c : ℕ) → IfSomeSet (read_of flat (item_at 0 at)) c → (p : ℕ) × (s.read ≡ Some p)
  pub after : (p : ℕ) → s.read ≡ Some p → slice_get dots p ≡ Some (dot at.node (at.step + 1))

pub record AreSteps (flat : code_flat.Tables) (dots : List DottedRule) (steps : List DottedActions) : Type 0 where
  pub count : length steps ≡ length dots
  pub each : (p : ℕ) (at : DottedRule) (s : DottedActions) → slice_get dots p ≡ Some at → slice_get steps p ≡ Some s
      → IsStep flat dots at s

-- the dotted rules of the first steps of a node
pub record AreFirstPositions (dots : List DottedRule) (node count : ℕ) (positions : List ℕ) : Type 0 where
  pub only : (p : ℕ) → In p positions → (k : ℕ) × (k < count) × (slice_get dots p ≡ Some (dot node k))
  pub all : (k : ℕ) → k < count → (p : ℕ) × In p positions × (slice_get dots p ≡ Some (dot node k))

-- the dotted rules where a target starts
abbrev pub AreStarts : code_flat.Tables → List DottedRule → ℕ → List ℕ → Type 0
AreStarts flat dots target starts = AreFirstPositions dots target (begin_count flat target) starts

-- a dotted rule that calls a target
pub record IsCallTo (steps : List DottedActions) (target : ℕ) (c : Call) : Type 0 where
  pub step : DottedActions
  pub is : slice_get steps c.from ≡ Some step
  pub called : Called
  pub called_is : step.called ≡ Some called
  pub target_is : called.target ≡ target
  pub after : called.after ≡ c.after

-- of the dotted rules below a number those that call a target
pub record AreCallsBelow (steps : List DottedActions) (target below : ℕ) (calls : List Call) : Type 0 where
  pub only : (c : Call) → In c calls → IsCallTo steps target c
  pub all : (p : ℕ) (s : DottedActions) (d : Called) → p < below → slice_get steps p ≡ Some s → s.called ≡ Some d
      → d.target ≡ target
      → (c : Call) × In c calls × (c.from ≡ p) × (c.after ≡ d.after)

-- the dotted rules that call a target
pub record AreCallsTo (steps : List DottedActions) (target : ℕ) (calls : List Call) : Type 0 where
  pub only : (c : Call) → In c calls → IsCallTo steps target c
  pub all : (p : ℕ) (s : DottedActions) (d : Called) → slice_get steps p ≡ Some s → s.called ≡ Some d → d.target
      ≡ target
      → (c : Call) × In c calls × (c.from ≡ p) × (c.after ≡ d.after)

-- the same of a target that is reached; of others none are listed
abbrev pub AreStartsIf : Bool → code_flat.Tables → List DottedRule → ℕ → List ℕ → Type 0
AreStartsIf true flat dots target starts = AreStarts flat dots target starts
AreStartsIf false flat dots target starts = starts ≡ []

pub record IsTargetAt (flat : code_flat.Tables) (dots : List DottedRule) (steps : List DottedActions) (target : ℕ)
    (r : TargetPositions)
    : Type 0 where
  pub starts : AreStartsIf r.reached flat dots target r.starts.items
  pub calls : AreCallsTo steps target r.calls.items

-- of each target where it starts and what calls it
pub record AreTargetPositions (flat : code_flat.Tables) (dots : List DottedRule) (steps : List DottedActions)
    (targets : List TargetPositions)
    : Type 0 where
  pub count : length targets ≡ length flat.nodes.items
  pub each : (t : ℕ) (r : TargetPositions) → slice_get targets t ≡ Some r → IsTargetAt flat dots steps t r

-- a target is reached
abbrev pub IsReached : List TargetPositions → ℕ → Type 0
IsReached targets target = (r : TargetPositions) → slice_get targets target ≡ Some r → r.reached ≡ true

-- what dotted rules call is reached
abbrev pub AreCallsReached : List TargetPositions → List DottedActions → Type 0
AreCallsReached targets steps = (p : ℕ) (s : DottedActions) (c : Called) → slice_get steps p ≡ Some s → s.called
    ≡ Some c
    → IsReached targets c.target

-- the table of a grammar
pub record IsDotTable (t : DotTable) : Type 0 where
  pub different : AreDifferent t.dots.items
  pub steps : AreSteps t.flat.value t.dots.items t.steps.items
  pub targets : AreTargetPositions t.flat.value t.dots.items t.steps.items t.targets.items
  pub reached : AreCallsReached t.targets.items t.steps.items
  pub whole : (target : ℕ) → start_target t.flat.value ≡ Some target → IsReached t.targets.items target
