-- Nodes that one dotted rule alone calls, where another node begins: they stand in the closure of that node's
-- prediction.
use Rattle.std.specs.Prelude.{◌≡◌, ℕ, ◌<◌, List, slice_get, length, Option, Some, None}
use Rattle.flatgrammar.specs.declared.callers.Caller.{Caller}
use Rattle.flatgrammar.specs.declared.callers.Caller.TheVariants.{Nobody, One, Many}
use Rattle.flatgrammar.specs.declared.inlined.Inlined.{Inlined}
use Rattle.flatgrammar.specs.declared.tables.Tables as code_flat
use Rattle.flatgrammar.specs.TableViews.{start_target}
use Rattle.flatgrammar.specs.ItemClosures.{dot, inlined_in, owner_or, begin_count, call_at}

-- what calls a node may be that dotted rule
abbrev pub allows : Caller → ℕ → ℕ → Type 0
allows Nobody n k = ⊥
allows (One p) n k = (p.node ≡ n) × (p.step ≡ k)
allows Many n k = Unit {0}

abbrev pub allows_in : Option Caller → ℕ → ℕ → Type 0
allows_in None n k = Unit {0}
allows_in (Some caller) n k = allows caller n k

-- all that was allowed still is
abbrev pub StillAllow : List Caller → List Caller → Type 0
StillAllow old new = (t n k : ℕ) → allows_in (slice_get old t) n k → allows_in (slice_get new t) n k

-- the dotted rules that call a node are allowed for it
abbrev pub AreCallers : code_flat.Tables → List Caller → Type 0
AreCallers flat callers = (n k t l : ℕ) → call_at flat (dot n k) ≡ Some (t, l) → allows_in (slice_get callers t) n k

abbrev pub inlined_at : List (Option Inlined) → ℕ → Option Inlined
inlined_at inlines t = inlined_in (slice_get inlines t)

-- the prediction in whose closure a node stands
abbrev pub owner_in : List (Option Inlined) → ℕ → ℕ
owner_in inlines t = owner_or (inlined_at inlines t) t

-- that dotted rule alone calls the node, and goes on elsewhere
pub record IsInlined (flat : code_flat.Tables) (inlines : List (Option Inlined)) (t : ℕ)
    (inlined : Inlined) : Type 0 where
  pub above : t < inlined.node
  pub within : inlined.prediction < length flat.nodes.items
  pub begins : inlined.step < begin_count flat inlined.node
  pub call : call_at flat (dot inlined.node inlined.step) ≡ Some (t, inlined.next)
  pub moves : inlined.next ≡ inlined.step → ⊥
  pub owner : inlined.prediction ≡ owner_in inlines inlined.node
  pub whole : start_target flat ≡ Some t → ⊥
  pub only : (n k l : ℕ) → call_at flat (dot n k) ≡ Some (t, l) → (inlined.node ≡ n) × (inlined.step ≡ k)

abbrev pub AreInlines : code_flat.Tables → List (Option Inlined) → Type 0
AreInlines flat inlines = (t : ℕ) (inlined : Inlined) → inlined_at inlines t ≡ Some inlined
    → IsInlined flat inlines t inlined
