-- Blocks that are made one dotted rule at a time: each node starts in the closure of its prediction.
use Rattle.std.specs.Prelude.{◌≡◌, ◌↔◌, ℕ, ◌<◌, ◌⊎◌, true, false, List, slice_get, Option, Some, None}
use Rattle.flatgrammar.specs.declared.closure.DottedRule.{DottedRule}
use Rattle.flatgrammar.specs.declared.closure.ItemClosure as code_closure
use Rattle.flatgrammar.specs.declared.inlined.Inlined.{Inlined}
use Rattle.flatgrammar.specs.declared.tables.Tables as code_flat
use Rattle.flatgrammar.specs.TableViews.{null_of, takes_of}
use Rattle.flatgrammar.specs.ItemClosures.{ItemClosure, closure_in, item_at, begin_count, call_at}
use Rattle.flatgrammar.specs.Inlines.{inlined_at, owner_in}
use Rattle.flatgrammar.specs.Positions.{In, AreDifferent}

-- a dotted rule calls a target that stands in no other closure
pub record IsCalled (flat : code_flat.Tables) (inlines : List (Option Inlined)) (p : DottedRule) (t : ℕ) : Type 0 where
  pub next : ℕ
  pub call : call_at flat p ≡ Some (t, next)
  pub own : inlined_at inlines t ≡ None

-- one goes on at once from a dotted rule to another
pub record IsPast (flat : code_flat.Tables) (p r : DottedRule) : Type 0 where
  pub target : ℕ
  pub call : call_at flat p ≡ Some (target, r.step)
  pub null : null_of flat target ≡ true
  pub free : takes_of flat (item_at 0 p) ≡ false
  pub node : r.node ≡ p.node
  pub moves : r.step ≡ p.step → ⊥

pub record SomeOf (P Q : DottedRule → Type 0) : Type 0 where
  pub dot : DottedRule
  pub stands : P dot
  pub is : Q dot

-- new has what old has, and the dotted rules of P with what they ask for
pub record Grows (flat : code_flat.Tables) (inlines : List (Option Inlined)) (P : DottedRule
    → Type 0) (old new : ItemClosure) : Type
    0 where
  pub dots : (p : DottedRule) → In p new.dots ↔ (In p old.dots ⊎ P p)
  pub calls : (t : ℕ) → In t new.calls ↔ (In t old.calls ⊎ SomeOf P (λ p. IsCalled flat inlines p t))
  pub passes : (r : DottedRule) → In r new.passes ↔ (In r old.passes ⊎ SomeOf P (λ p. IsPast flat p r))
  pub different : AreDifferent old.dots → ((p : DottedRule) → P p → In p old.dots → ⊥) → AreDifferent new.dots

-- where a node begins
abbrev pub BeginsAt : code_flat.Tables → ℕ → DottedRule → Type 0
BeginsAt flat n p = (p.node ≡ n) × (p.step < begin_count flat n)

-- where the nodes of a prediction begin
abbrev pub IsAtOwner : code_flat.Tables → List (Option Inlined) → ℕ → DottedRule → Type 0
IsAtOwner flat inlines h p = (owner_in inlines p.node ≡ h) × (p.step < begin_count flat p.node)

abbrev pub ArePredictionClosures : code_flat.Tables → List (Option Inlined) → List code_closure.ItemClosure → Type 0
ArePredictionClosures flat inlines closures = (h : ℕ) → Grows flat inlines (IsAtOwner flat inlines h) (closure_in None)
    (closure_in (slice_get closures h))
